-- Alerts merged by id.
use Rattle.std.proofs.Common.{◌≡◌, ℕ, zero, suc, ◌<◌, ◌==◌, ◌||◌, nat_lt, Bool, true, false, cond, List, [], ◌∷◌, map}
use Rattle.std.proofs.Common.{refl, ap, ◌∙◌, arith, sym, T}
use Rattle.std.proofs.lemmas.Bool.Decides.{nat_tests}
use Rattle.std.proofs.lemmas.Cmp.{nat_list_cmp_total}
use Rattle.std.proofs.lemmas.List.Elements.{filter_agree}
use Rattle.std.specs.List.{filter}
use Rattle.std.specs.Ordering.{ordering_reverse}
use Rattle.std.specs.declared.cmp.Ordering.TheVariants.{Less, Greater}
use Rattle.std.specs.FinMap as finite
use Rattle.std.specs.FinMap.{entries_sorted}
use Rattle.std.specs.FinMap.Entries.{is_sorted, below_all, by_order}
use Rattle.clip_words.specs.Order.{bytes_cmp}
use Rattle.clip_grammar.proofs.Booleans.{first, second}
use Rattle.clip_grammar.proofs.Orderings.{less}
use Rattle.clip_meaning.specs.Article.{ArticleValue}
use Rattle.clip_model.specs.History.{Registered, Registry}
use Rattle.clip_model.specs.Alerts.{Alert, alert_of, holds_of, alerts_in}
use Rattle.clip_model.specs.Shards.{placed, merged, merged_of}
use Rattle.clip_model.proofs.Filters.{filter_none}

-- ---- rising ids

-- the id is below that of each
abbrev pub IsBelow : List ℕ → List Alert → Type 0
IsBelow id [] = Unit {0}
IsBelow id (a ∷ xs) = (bytes_cmp id a.query ≡ Less) × IsBelow id xs

-- each id is below those after it
abbrev pub Rise : List Alert → Type 0
Rise [] = Unit {0}
Rise (a ∷ xs) = IsBelow a.query xs × Rise xs

below_filter : (id : List ℕ) (p : Alert → Bool) (xs : List Alert) → IsBelow id xs → IsBelow id (filter p xs)
below_filter id p [] h = tt
below_filter id p (a ∷ xs) h =
    let rest = below_filter id p xs h.1 in
    elim (p a) as (λ b. IsBelow id (cond b (a ∷ filter p xs) (filter p xs))) [ true ↦ (h.0, rest) | false ↦ rest ]

pub rise_filter : (p : Alert → Bool) (xs : List Alert) → Rise xs → Rise (filter p xs)
rise_filter p [] h = tt
rise_filter p (a ∷ xs) h =
    let rest = rise_filter p xs h.1 in
    elim (p a) as (λ b. Rise (cond b (a ∷ filter p xs) (filter p xs))) [
      | true ↦
          (below_filter a.query p xs h.0, rest)
      | false ↦ rest
    ]

entries_below : (article : ArticleValue) (id : List ℕ) (es : List (List ℕ × Registered))
    → T (below_all bytes_cmp id es) → IsBelow id (map (alert_of article) (filter (holds_of article) es))
entries_below article id [] h = tt
entries_below article id (e ∷ es) h =
    let rest = entries_below article id es (second _ _ h) in
    elim (holds_of article e)
    as (λ b. IsBelow id (map (alert_of article)
    (cond b (e ∷ filter (holds_of article) es) (filter (holds_of article) es)))) [
      | true ↦
          (less _ (first _ _ h), rest)
      | false ↦ rest
    ]

entries_rise : (article : ArticleValue) (es : List (List ℕ × Registered)) → T (is_sorted bytes_cmp es)
    → Rise (map (alert_of article) (filter (holds_of article) es))
entries_rise article [] h = tt
entries_rise article (e ∷ es) h =
    let rest = entries_rise article es (second _ _ h) in
    elim (holds_of article e)
    as (λ b. Rise (map (alert_of article)
    (cond b (e ∷ filter (holds_of article) es) (filter (holds_of article) es)))) [
      | true ↦
          (entries_below article e.0 es (first _ _ h), rest)
      | false ↦ rest
    ]

-- the ids of an article's alerts rise
pub alerts_rise : (registry : Registry) (article : ArticleValue) → Rise (alerts_in registry article)
alerts_rise registry article = entries_rise article (finite.entries registry) (entries_sorted registry)

-- ---- merging

placed_first : (a : Alert) (bs : List Alert) → IsBelow a.query bs → placed a bs ≡ a ∷ bs
placed_first a [] h = refl
placed_first a (b ∷ bs) h = ap (λ r. by_order r (a ∷ b ∷ bs) (a ∷ b ∷ bs) (b ∷ placed a bs)) h.0

placed_behind : (a x : Alert) (bs : List Alert) → bytes_cmp x.query a.query ≡ Less → placed a (x ∷ bs) ≡ x ∷ placed a bs
placed_behind a x bs h =
    let after : bytes_cmp a.query x.query ≡ Greater = nat_list_cmp_total.antisymm a.query x.query
    ∙ ap ordering_reverse h in
    ap (λ r. by_order r (a ∷ x ∷ bs) (a ∷ x ∷ bs) (x ∷ placed a bs)) after

merged_behind : (x : Alert) (xs bs : List Alert) → IsBelow x.query xs → merged xs (x ∷ bs) ≡ x ∷ merged xs bs
merged_behind x [] bs h = refl
merged_behind x (a ∷ xs) bs h = ap (placed a) (merged_behind x xs bs h.1) ∙ placed_behind a x (merged xs bs) h.0

-- what two tests keep of rising alerts, of which none passes both, merges to what either keeps
merged_tests : (p q : Alert → Bool) → ((a : Alert) → p a ≡ true → q a ≡ false) → (xs : List Alert) → Rise xs
    → merged (filter p xs) (filter q xs) ≡ filter (λ a. p a || q a) xs
merged_tests p q apart [] h = refl
merged_tests p q apart (x ∷ xs) h =
    let rest = merged_tests p q apart xs h.1 in
    elim (p x) as (λ b. p x ≡ b
    → merged (cond b (x ∷ filter p xs) (filter p xs)) (cond (q x) (x ∷ filter q xs) (filter q xs))
    ≡ cond (b || q x) (x ∷ filter (λ a. p a || q a) xs) (filter (λ a. p a || q a) xs)) [
      | true ↦ λ is.
          ap (λ c. placed x (merged (filter p xs) (cond c (x ∷ filter q xs) (filter q xs)))) (apart x is)
          ∙ ap (placed x) rest ∙ placed_first x _ (below_filter x.query (λ a. p a || q a) xs h.0)
      | false ↦ λ is. elim (q x) as (λ c. merged (filter p xs) (cond c (x ∷ filter q xs) (filter q xs))
          ≡ cond c (x ∷ filter (λ a. p a || q a) xs) (filter (λ a. p a || q a) xs)) [
            | true ↦ merged_behind x (filter p xs) (filter q xs) (below_filter x.query p xs h.0)
                ∙ ap (λ ys. x ∷ ys) rest
            | false ↦ rest
          ]
    ] refl

-- ---- numbers of parts

pub not_below : (k n : ℕ) → nat_lt k n ≡ true → (k == n) ≡ false
not_below k n h = grind (arith, nat_tests)

pub below_more : (k n : ℕ) → (nat_lt k n || (k == n)) ≡ nat_lt k (suc n)
below_more k n = grind (arith, nat_tests)

pub none_below : (k : ℕ) → nat_lt k 0 ≡ false
none_below k = grind (arith, nat_tests)

pub is_below : (k n : ℕ) → k < n → nat_lt k n ≡ true
is_below k n h = grind (arith, nat_tests)

-- the parts of rising alerts merge to them
pub merged_parts : (n : ℕ) (part : Alert → ℕ) (xs : List Alert) → Rise xs
    → merged_of n (λ k. filter (λ a. part a == k) xs) ≡ filter (λ a. nat_lt (part a) n) xs
merged_parts zero part xs h = sym (filter_none (λ a. nat_lt (part a) 0) (λ a. none_below (part a)) xs)
merged_parts (suc n) part xs h =
    ap (λ ys. merged ys (filter (λ a. part a == n) xs)) (merged_parts n part xs h)
    ∙ merged_tests (λ a. nat_lt (part a) n) (λ a. part a == n) (λ a. not_below (part a) n) xs h
    ∙ filter_agree (λ a. nat_lt (part a) n || (part a == n)) (λ a. nat_lt (part a) (suc n))
    (λ a. below_more (part a) n) xs
