-- The parts of a division, by their numbers and as a list.
use Rattle.std.proofs.Common.{◌≡◌, ℕ, zero, suc, ◌+◌, ◌<◌, List, [], ◌∷◌, length, sum, refl, sym, ap, ◌∙◌, arith}
use Rattle.std.proofs.lemmas.List.Sums.{sum_by-cons}
use Rattle.std.specs.FinMap.Entries.{by_order}
use Rattle.std.specs.Ordering.{is_gt}
use Rattle.std.specs.Prelude.{slice_index}
use Rattle.clip_words.specs.Order.{bytes_cmp}
use Rattle.clip_meaning.specs.Article.{ArticleValue}
use Rattle.clip_model.specs.History.{History, replay}
use Rattle.clip_model.specs.Alerts.{Alert, alerts}
use Rattle.clip_model.specs.Shards.{Division, PartsAreMerged, merged, merged_of, placed, shard, sum_of}
use Rattle.clip_model.proofs.Merging.{IsBelow, Rise, alerts_rise}
use Rattle.clip_gather.specs.Gather.{AlertsNeverFall, AreOfShards, given, query_of}
use Rattle.clip_gather.specs.Merged.{IsNotAbove, NeverFalls, NoneFalls, placed_by, merged_by, merged_all}
use Rattle.clip_gather.proofs.Merges.{merged_none, merged_merged}

-- ---- alerts are merged by the ids of their queries

placed_is : (a : Alert) (bs : List Alert) → placed_by query_of a bs ≡ placed a bs
placed_is a [] = refl
placed_is a (b ∷ bs) =
    ap (λ l. by_order (bytes_cmp a.query b.query) (a ∷ b ∷ bs) (a ∷ b ∷ bs) (b ∷ l)) (placed_is a bs)

merged_is : (xs bs : List Alert) → merged_by query_of xs bs ≡ merged xs bs
merged_is [] bs = refl
merged_is (x ∷ xs) bs = placed_is x (merged_by query_of xs bs) ∙ ap (placed x) (merged_is xs bs)

-- ---- parts by their numbers

-- what the parts below n give, merged
abbrev parts_of : {A : Type 0} → (A → List ℕ) → ℕ → (ℕ → List A) → List A
parts_of id zero give = []
parts_of id (suc n) give = merged_by id (parts_of id n give) (give n)

merged_of_is : (n : ℕ) (give : ℕ → List Alert) → merged_of n give ≡ parts_of query_of n give
merged_of_is zero give = refl
merged_of_is (suc n) give =
    ap (λ l. merged l (give n)) (merged_of_is n give) ∙ sym (merged_is (parts_of query_of n give) (give n))

parts_of_first : {A : Type 0} (id : A → List ℕ) (n : ℕ) (give : ℕ → List A) → NeverFalls id (give 0)
    → parts_of id (suc n) give ≡ merged_by id (give 0) (parts_of id n (λ k. give (suc k)))
parts_of_first id zero give h = sym (merged_none id (give 0) h)
parts_of_first id (suc n) give h =
    ap (λ l. merged_by id l (give (suc n))) (parts_of_first id n give h)
    ∙ merged_merged id (give 0) (parts_of id n (λ k. give (suc k))) (give (suc n))

parts_of_given : {A : Type 0} (id : A → List ℕ) (parts : List (List A)) → NoneFalls id parts
    → parts_of id (length parts) (given parts) ≡ merged_all id parts
parts_of_given id [] h = refl
parts_of_given id (part ∷ parts) h =
    parts_of_first id (length parts) (given (part ∷ parts)) h.0
    ∙ ap (merged_by id part) (parts_of_given id parts h.1)

-- all lists, merged, are what the parts give
pub gathered : (n : ℕ) (parts : List (List Alert)) → n ≡ length parts → NoneFalls query_of parts
    → merged_all query_of parts ≡ merged_of n (given parts)
gathered n parts number falls =
    sym (ap (λ n. merged_of n (given parts)) number ∙ merged_of_is (length parts) (given parts)
    ∙ parts_of_given query_of parts falls)

merged_of_same : (n : ℕ) (f g : ℕ → List Alert) → ((k : ℕ) → k < n → f k ≡ g k) → merged_of n f ≡ merged_of n g
merged_of_same zero f g same = refl
merged_of_same (suc n) f g same =
    ap (λ l. merged l (f n)) (merged_of_same n f g (λ k h. same k (omega arith)))
    ∙ ap (merged (merged_of n g)) (same n (omega arith))

sum_of_first : (n : ℕ) (f : ℕ → ℕ) → sum_of (suc n) f ≡ f 0 + sum_of n (λ k. f (suc k))
sum_of_first zero f = omega arith
sum_of_first (suc n) f = let rest = sum_of_first n f in omega arith

pub sum_of_list : (xs : List ℕ) → sum_of (length xs) (slice_index xs) ≡ sum xs
sum_of_list [] = refl
sum_of_list (x ∷ xs) =
    sum_of_first (length xs) (slice_index (x ∷ xs)) ∙ ap (λ n. x + n) (sum_of_list xs) ∙ sym (sum_by-cons (λ n. n) x xs)

rising_not_above : (a : Alert) (xs : List Alert) → IsBelow a.query xs → IsNotAbove query_of a xs
rising_not_above a [] h = tt
rising_not_above a (x ∷ xs) h = ap is_gt h.0

rising : (xs : List Alert) → Rise xs → NeverFalls query_of xs
rising [] h = tt
rising (a ∷ xs) h = (rising_not_above a xs h.0, rising xs h.1)

pub never_fall : AlertsNeverFall
never_fall h article = rising (alerts h article) (alerts_rise (replay h) article)

-- parts that found what is due at the parts of a history give what is due at the whole
pub whole : PartsAreMerged → (n : ℕ) (give : ℕ → List Alert) (found : List Alert) → found ≡ merged_of n give
    → (d : Division) (h : History) (article : ArticleValue) → n ≡ d.parts → AreOfShards d h article give
    → found ≡ alerts h article
whole law n give found are d h article number same =
    are ∙ ap (λ n. merged_of n give) number
    ∙ merged_of_same d.parts give (λ k. alerts (shard d k h) article) same
    ∙ law d h article
