-- What is gathered of the parts of a history is what is found at the whole.
use Rattle.std.proofs.Common.{◌≡◌, ℕ, zero, suc, ◌<◌, ◌++◌, List, [], ◌∷◌, map, length, refl, sym, ap, ap₂, ◌∙◌, arith}
use Rattle.std.specs.Prelude.{Bool}
use Rattle.std.proofs.lemmas.List.{length-map}
use Rattle.std.proofs.lemmas.List.Folds.{flat_map-map}
use Rattle.clip_model.specs.Alerts.{Alert, alerts}
use Rattle.clip_model.specs.Shards.{PartsAreMerged, shard}
use Rattle.clip_gather.specs.Gather.{given, query_of}
use Rattle.clip_gather.specs.Merged.{NeverFalls, NoneFalls, merged_all}
use Rattle.clip_gather.proofs.Maps.{merged_all_map}
use Rattle.clip_gather.proofs.Numbered.{gathered, never_fall, whole}
use Rattle.clip_engine.specs.Found.{alerts_bytes, number_bytes}
use Rattle.clip_engine.specs.Gathered.{AreWhole, all_bytes, asked_in, id_of, shown, told_bytes, told_in}

-- what is given from 0 up to n
abbrev given_below : {A : Type 0} → ℕ → (ℕ → List A) → List (List A)
given_below zero give = []
given_below (suc n) give = give 0 ∷ given_below n (λ k. give (suc k))

length_below : {A : Type 0} (n : ℕ) (give : ℕ → List A) → n ≡ length (given_below n give)
length_below zero give = refl
length_below (suc n) give = ap suc (length_below n (λ k. give (suc k)))

given_back : {A : Type 0} (n : ℕ) (give : ℕ → List A) (k : ℕ) → k < n → given (given_below n give) k ≡ give k
given_back zero give k h = absurd (omega (arith, h))
given_back (suc n) give zero h = refl
given_back (suc n) give (suc k) h = given_back n (λ k. give (suc k)) k (omega arith)

none_below : {A : Type 0} (id : A → List ℕ) (n : ℕ) (give : ℕ → List A) → ((k : ℕ) → NeverFalls id (give k))
    → NoneFalls id (given_below n give)
none_below id zero give falls = tt
none_below id (suc n) give falls = (falls 0, none_below id n (λ k. give (suc k)) (λ k. falls (suc k)))

-- lists that are each what is given, read by f
read_lists : {A B : Type 0} (f : A → B) (lists : List (List B)) (give : ℕ → List A)
    → ((k : ℕ) → k < length lists → given lists k ≡ map f (give k))
    → lists ≡ map (map f) (given_below (length lists) give)
read_lists f [] give same = refl
read_lists f (l ∷ lists) give same =
    ap₂ (λ x xs. x ∷ xs) (same 0 (omega arith))
    (read_lists f lists (λ k. give (suc k)) (λ k h. same (suc k) (omega (arith, h))))

shown_bytes : (shows : Bool) (found : List Alert) → all_bytes (map (shown shows) found) ≡ alerts_bytes shows found
shown_bytes shows found =
    ap₂ (λ n bytes. number_bytes n ++ bytes) (length-map found (shown shows))
    (flat_map-map told_bytes (shown shows) found)

pub are_whole : PartsAreMerged → AreWhole
are_whole law d h article shows parts count tell =
    let give : ℕ → List Alert = λ k. alerts (shard d k h) article in
    let lists = map told_in parts in
    let number : length lists ≡ d.parts = length-map parts told_in ∙ count in
    let below = given_below (length lists) give in
    let read : lists ≡ map (map (shown shows)) below =
    read_lists (shown shows) lists give (λ k h. tell k (omega (arith, number, h))) in
    let falls : NoneFalls query_of below =
    none_below query_of (length lists) give (λ k. never_fall (shard d k h) article) in
    let due : merged_all query_of below ≡ alerts h article =
    whole law (length lists) (given below) (merged_all query_of below)
    (gathered (length lists) below (length_below (length lists) give) falls) d h article number
    (λ k h. given_back (length lists) give k (omega (arith, number, h))) in
    ap (λ bytes. number_bytes (asked_in parts) ++ bytes)
    (ap all_bytes (ap (merged_all id_of) read ∙ sym (merged_all_map (shown shows) id_of below)
    ∙ ap (map (shown shows)) due) ∙ shown_bytes shows (alerts h article))
