-- Lists of lists, merged by halves.
use Rattle.std.proofs.Common.{◌≡◌, ℕ, zero, suc, ◌+◌, ◌-◌, ◌≤◌, List, [], ◌∷◌, ◌++◌, sym, ap, ◌∙◌, arith, take, drop}
use Rattle.std.proofs.Common.{append_assoc, subst, true, get_or, length, map, ◌<◌}
use Rattle.std.proofs.lemmas.List.{map-append, take_more}
use Rattle.std.specs.Ordering.{is_lt}
use Rattle.std.proofs.Math.Seq.{take-add}
use Rattle.clip_words.specs.Order.{bytes_cmp}
use Rattle.clip_gather.specs.Merged.{NeverFalls, NoneFalls, merged_by, merged_all}
use Rattle.clip_gather.specs.Steps.Merging.{IsNotBelow}
use Rattle.clip_gather.proofs.Merges.{merged_none, merged_all_append, merged_low, merged_high}

-- the first list alone
pub one_list : {A : Type 0} (id : A → List ℕ) (n : ℕ) (first : List A) (lists rest : List (List A)) → n ≡ 1
    → lists ≡ first ∷ rest
    → NoneFalls id lists → first ≡ merged_all id (take n lists)
one_list id n first lists rest one are falls =
    let head : NoneFalls id (first ∷ rest) = subst (NoneFalls id) are falls in
    sym (ap (λ n. merged_all id (take n lists)) one ∙ ap (λ l. merged_all id (take 1 l)) are
    ∙ merged_none id first head.0)

pub none_falls_behind : {A : Type 0} (id : A → List ℕ) (n : ℕ) (lists : List (List A)) → NoneFalls id lists
    → NoneFalls id (drop n lists)
none_falls_behind id zero lists h = h
none_falls_behind id (suc n) [] h = h
none_falls_behind id (suc n) (l ∷ lists) h = none_falls_behind id n lists h.1

none_append : {A : Type 0} (id : A → List ℕ) (xs : List (List A)) (x : List A) → NoneFalls id xs → NeverFalls id x
    → NoneFalls id (xs ++ x ∷ [])
none_append id [] x h k = (k, tt)
none_append id (y ∷ ys) x h k = (h.0, none_append id ys x h.1 k)

-- one list more
pub none_more : {A P : Type 0} (id : A → List ℕ) (f : P → List A) (parts : List P) (i : ℕ) (d : P) → i < length parts
    → NoneFalls id (map f (take i parts)) → NeverFalls id (f (get_or parts i d))
    → NoneFalls id (map f (take (i + 1) parts))
none_more id f parts i d lt h k =
    subst (NoneFalls id)
    (sym (ap (map f) (take_more parts i d lt) ∙ map-append f (take i parts) (get_or parts i d ∷ [])))
    (none_append id (map f (take i parts)) (f (get_or parts i d)) h k)

-- each of the lists
pub none_at : {A P : Type 0} (id : A → List ℕ) (f : P → List A) (parts : List P) (i : ℕ) (d : P) → i < length parts
    → NoneFalls id (map f parts) → NeverFalls id (f (get_or parts i d))
none_at id f [] i d lt h = absurd (omega (arith, lt))
none_at id f (p ∷ parts) zero d lt h = h.0
none_at id f (p ∷ parts) (suc i) d lt h = none_at id f parts i d (omega (arith, lt)) h.1

pub halves : {A : Type 0} (id : A → List ℕ) (half count : ℕ) (lists : List (List A)) → half ≤ count
    → merged_by id (merged_all id (take half lists)) (merged_all id (take (count - half) (drop half lists)))
    ≡ merged_all id (take count lists)
halves id half count lists le =
    let all : half + (count - half) ≡ count = omega arith in
    sym (merged_all_append id (take half lists) (take (count - half) (drop half lists)))
    ∙ ap (merged_all id) (sym (take-add half (count - half) lists) ∙ ap (λ n. take n lists) all)

-- ---- the steps of a merge, with what was found before

pub low_step : {A : Type 0} (id : A → List ℕ) (found more : List A) (a b : A) (xs bs cs all : List A)
    → more ≡ found ++ b ∷ []
    → cs ≡ b ∷ bs → NeverFalls id (a ∷ xs) → is_lt (bytes_cmp (id b) (id a)) ≡ true
    → found ++ merged_by id (a ∷ xs) cs ≡ all → more ++ merged_by id (a ∷ xs) bs ≡ all
low_step id found more a b xs bs cs all pushed popped falls below are =
    ap (λ l. l ++ merged_by id (a ∷ xs) bs) pushed ∙ append_assoc found (b ∷ []) (merged_by id (a ∷ xs) bs)
    ∙ sym (ap (λ l. found ++ l) (ap (merged_by id (a ∷ xs)) popped ∙ merged_low id a b xs bs falls below)) ∙ are

pub high_step : {A : Type 0} (id : A → List ℕ) (found more : List A) (a : A) (xs bs all : List A)
    → more ≡ found ++ a ∷ []
    → NeverFalls id (a ∷ xs) → IsNotBelow id bs a → found ++ merged_by id (a ∷ xs) bs ≡ all
    → more ++ merged_by id xs bs ≡ all
high_step id found more a xs bs all pushed falls level are =
    ap (λ l. l ++ merged_by id xs bs) pushed ∙ append_assoc found (a ∷ []) (merged_by id xs bs)
    ∙ sym (ap (λ l. found ++ l) (merged_high id a xs bs falls level)) ∙ are

pub falls_behind : {A : Type 0} (id : A → List ℕ) (b : A) (bs cs : List A) → cs ≡ b ∷ bs → NeverFalls id cs
    → NeverFalls id bs
falls_behind id b bs cs are falls = let these : NeverFalls id (b ∷ bs) = subst (NeverFalls id) are falls in these.1
