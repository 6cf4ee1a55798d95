-- The numbers of terms among old terms, by the numbers of the old ones among them.
use Rattle.std.proofs.Common.{◌≡◌, ℕ, zero, suc, ◌+◌, ◌<◌, Bool, true, false, cond, List, [], ◌∷◌, length, map, take}
use Rattle.std.proofs.Common.{get_or, set, Option, Some, None, option_map, refl, sym, ◌∙◌, ap, arith, add-one, subst}
use Rattle.std.proofs.Common.{replicate}
use Rattle.std.specs.Ordering.{is_lt}
use Rattle.std.specs.declared.cmp.Ordering.TheVariants.{Less}
use Rattle.std.specs.List.{AllByRecursion}
use Rattle.std.specs.List.Sorted.{IsStrictlySortedBy}
use Rattle.std.proofs.lemmas.Bool.{false≢true}
use Rattle.std.proofs.lemmas.List.{get_or-map}
use Rattle.clip_extract.specs.Keys.{KeyValue, Any, key_cmp, is_same}
use Rattle.clip_extract.proofs.Order.{same_key}
use Rattle.clip_terms.specs.Terms.{number_of}
use Rattle.clip_segment.proofs.Keys.{above_apart, flipped}

-- what stands under a term, with another value where it is the key
abbrev pub with_value : {B : Type 0} → KeyValue → B → (KeyValue → B) → KeyValue → B
with_value key value under term = cond (is_same key term) value (under term)

above : {B : Type 0} (key : KeyValue) (value : B) (under : KeyValue → B) (ts : List KeyValue)
    → AllByRecursion (λ t. key_cmp key t ≡ Less) ts → map under ts ≡ map (with_value key value under) ts
above key value under [] lower = refl
above key value under (t ∷ ts) lower =
    let other : is_same key t ≡ false = flipped key t ∙ above_apart key t (ap is_lt lower.0) in
    ap (λ b. cond b value (under t) ∷ map under ts) (sym other)
    ∙ ap (λ l. with_value key value under t ∷ l) (above key value under ts lower.1)

-- a value at a key's number, if it is a term
abbrev pub set_at : {B : Type 0} → List B → Option ℕ → B → List B
set_at xs None value = xs
set_at xs (Some n) value = set xs n value

pub value_set : {B : Type 0} (key : KeyValue) (value : B) (under : KeyValue → B) (terms : List KeyValue)
    → IsStrictlySortedBy key_cmp terms
    → set_at (map under terms) (number_of terms key) value ≡ map (with_value key value under) terms
unfolding IsStrictlySortedBy
value_set key value under [] rising = refl
value_set key value under (t ∷ ts) rising =
    at (is_same key t) refl (number_of ts key) (value_set key value under ts rising.1)
  where
    at : (b : Bool) → is_same key t ≡ b → (o : Option ℕ) → set_at (map under ts) o value
        ≡ map (with_value key value under) ts
        → set_at (under t ∷ map under ts) (cond b (Some 0) (option_map suc o)) value ≡ with_value key value under t
        ∷ map (with_value key value under) ts
    at true same o rest =
        let lower : AllByRecursion (λ l. key_cmp key l ≡ Less) ts =
        subst (λ k. AllByRecursion (λ l. key_cmp k l ≡ Less) ts) (sym (same_key key t same)) rising.0 in
        ap (λ l. value ∷ l) (above key value under ts lower)
        ∙ ap (λ b. cond b value (under t) ∷ map (with_value key value under) ts) (sym same)
    at false other None rest =
        ap (λ l. under t ∷ l) rest ∙ ap (λ b. cond b value (under t) ∷ map (with_value key value under) ts) (sym other)
    at false other (Some n) rest =
        ap (λ l. under t ∷ l) rest ∙ ap (λ b. cond b value (under t) ∷ map (with_value key value under) ts) (sym other)

-- ---- the number among one key more

lower_at : (k : KeyValue) (ks : List KeyValue) (i : ℕ) (d : KeyValue) → AllByRecursion (λ l. key_cmp k l ≡ Less) ks
    → i < length ks → key_cmp k (get_or ks i d) ≡ Less
lower_at k [] i d lower lt = absurd (omega arith)
lower_at k (l ∷ ks) zero d lower lt = lower.0
lower_at k (l ∷ ks) (suc i) d lower lt = lower_at k ks i d lower.1 (omega arith)

number_more : (keys : List KeyValue) (i : ℕ) (d term : KeyValue) → IsStrictlySortedBy key_cmp keys → i < length keys
    → with_value (get_or keys i d) (Some i) (number_of (take i keys)) term ≡ number_of (take (suc i) keys) term
unfolding IsStrictlySortedBy
number_more [] i d term rising lt = absurd (omega arith)
number_more (k ∷ ks) zero d term rising lt = ap (λ b. cond b (Some 0) None) (flipped k term)
number_more (k ∷ ks) (suc i) d term rising lt =
    by_tests (is_same (get_or ks i d) term) refl (is_same term k) refl (number_of (take i ks) term)
    (number_more ks i d term rising.1 (omega arith))
  where
    next : KeyValue
    next = get_or ks i d

    by_tests : (a : Bool) → is_same next term ≡ a → (b : Bool) → is_same term k ≡ b → (o : Option ℕ)
        → cond a (Some i) o ≡ number_of (take (suc i) ks) term
        → cond a (Some (suc i)) (cond b (Some 0) (option_map suc o))
        ≡ cond b (Some 0) (option_map suc (number_of (take (suc i) ks) term))
    by_tests true there true here o rest =
        let apart : is_same next k ≡ false = above_apart k next (ap is_lt (lower_at k ks i d rising.0 (omega arith))) in
        absurd (false≢true (sym apart ∙ ap (λ x. is_same x k) (same_key next term there) ∙ here))
    by_tests true there false here o rest = ap (option_map suc) rest
    by_tests false there true here o rest = refl
    by_tests false there false here o rest = ap (option_map suc) rest

-- ---- one old term more

pub next_old : (terms keys : List KeyValue) (i : ℕ) (numbers : List (Option ℕ)) (number : Option ℕ) (d : Option ℕ)
    (old new : List (Option ℕ)) → IsStrictlySortedBy key_cmp terms → IsStrictlySortedBy key_cmp keys
    → i < length keys → numbers ≡ map (number_of terms) keys → number ≡ get_or numbers i d
    → new ≡ set_at old number (Some i)
    → old ≡ map (number_of (take i keys)) terms → new ≡ map (number_of (take (i + 1) keys)) terms
next_old terms keys i numbers number d old new rising keys_rise lt numbered is e so =
    let key = get_or keys i Any in
    let at : number ≡ number_of terms key = is ∙ ap (λ l. get_or l i d) numbered
    ∙ get_or-map (number_of terms) keys i Any d lt in
    rw add-one (
    e ∙ ap (λ l. set_at l number (Some i)) so
    ∙ ap (λ o. set_at (map (number_of (take i keys)) terms) o (Some i)) at
    ∙ value_set key (Some i) (number_of (take i keys)) terms rising
    ∙ ap (λ f. map f terms) (λ j term. number_more keys i Any term keys_rise lt j))

-- no term is among no old ones
pub none_old : (terms : List KeyValue) → replicate (length terms) None ≡ map (number_of []) terms
none_old [] = refl
none_old (t ∷ ts) = ap (λ l. None ∷ l) (none_old ts)
