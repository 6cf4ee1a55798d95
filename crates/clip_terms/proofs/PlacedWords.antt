-- The places of a field's words among the keys, as they are written posting by posting.
use Rattle.std.proofs.Common.{◌≡◌, ℕ, zero, suc, ◌+◌, ◌-◌, ◌<◌, Bool, true, false, cond, List, [], ◌∷◌, ◌++◌, All}
use Rattle.std.proofs.Common.{IsPermutation, map, length, take, drop, set, get_or, Option, Some, None}
use Rattle.std.proofs.Common.{unwrap_or, slice_get, Vec, Global, refl, sym, ap, ◌∙◌, subst, arith, append_assoc}
use Rattle.std.proofs.Common.{append-nil, get_or-set_same, get_or-set_other, bytes_eq, inl, inr, option_map, Bor}
use Rattle.std.specs.Option.{option_copied}
use Rattle.std.proofs.lemmas.Bool.{cases_eq}
use Rattle.std.proofs.lemmas.List.{length-append, get_or_at, get_or_default, drop_more}
use Rattle.std.proofs.lemmas.List.Elements.{All-nil, All-cons, All-head, All-tail, All-take, All-more}
use Rattle.std.proofs.lemmas.List.Sorted.{All-permutation, IsPermutation-sym}
use Rattle.std.proofs.lemmas.Option.{slice_get_within}
use Rattle.clip_meaning.specs.Index.{numbered}
use Rattle.clip_extract.specs.Keys.{KeyValue, Any, Word}
use Rattle.clip_terms.specs.Terms.{term_at}
use Rattle.clip_terms.specs.Steps.KeysByField.{differing, key_added}
use Rattle.clip_terms.specs.Steps.Places.{AreOfWords, IsPlaced, EndsWith}
use Rattle.clip_terms.proofs.KeysByField.{same_word}

abbrev pub Place : Type 0
Place = List ℕ × ℕ

abbrev pub words_at : List Place → List (List ℕ)
words_at ps = map (λ (p : Place). p.0) ps

-- what is read at a place is there
pub read_itself : (ps : List Place) (i : ℕ) (p : Place) → i < length ps → p ≡ get_or ps i ([], 0) → p ≡ get_or ps i p
read_itself ps i p lt is = is ∙ get_or_default ps i ([], 0) p lt

lent_word : (lent : Option (Bor Place)) (last : Option Place) → option_copied lent ≡ last
    → option_map (λ (p : Bor Place). p.now.0) lent ≡ option_map (λ (p : Place). p.0) last
lent_word None last e = ap (option_map (λ (p : Place). p.0)) e
lent_word (Some p) last e = ap (option_map (λ (p : Place). p.0)) e

-- what is added after the posting that is lent is added after its word
pub grown_by : (lent : Option (Bor Place)) (last : Option Place) (field name word : List ℕ) (old new : List KeyValue)
    → option_copied lent ≡ last → field ≡ name
    → new ≡ old ++ key_added field (option_map (λ (p : Bor Place). p.now.0) lent) word
    → new ≡ old ++ key_added name (option_map (λ (p : Place). p.0) last) word
grown_by lent last field name word old new e same is =
    is ∙ (λ i. old ++ key_added (same i) (lent_word lent last e i) word)

-- what a vector counts is how many it has
pub counted : {X : Type 0} (xs : Vec X Global) → length xs.items ≡ xs.len
counted xs = omega arith

-- ---- keys that are added

got : (front : List KeyValue) (k : KeyValue) (ks : List KeyValue) → slice_get (front ++ k ∷ ks) (length front) ≡ Some k
got [] k ks = refl
got (x ∷ front) k ks = got front k ks

ends_pushed : (field word : List ℕ) (old : List KeyValue) → EndsWith field (Some word) (old ++ Word field word ∷ [])
ends_pushed field word old =
    let long = length-append old (Word field word ∷ []) in
    let place : length (old ++ Word field word ∷ []) - 1 ≡ length old = omega (arith, long) in (
      omega (arith, long),
      ap (term_at (old ++ Word field word ∷ [])) place
          ∙ ap (λ o. unwrap_or o Any) (got old (Word field word) []),
    )

-- after a word the last key is its
ends_after : (field word : List ℕ) (last : Option (List ℕ)) (old : List KeyValue) → EndsWith field last old
    → EndsWith field (Some word) (old ++ key_added field last word)
ends_after field word None old before = ends_pushed field word old
ends_after field word (Some w) old before = by_test (bytes_eq w word) refl
  where
    by_test : (b : Bool) → bytes_eq w word ≡ b → EndsWith field (Some word) (old ++ cond b [] (Word field word ∷ []))
    by_test true same = subst (EndsWith field (Some word)) (sym (append-nil old))
        (subst (λ v. EndsWith field (Some v) old) (sym (same_word word w same)) before)
    by_test false other = ends_pushed field word old

pub ends_more : (field word : List ℕ) (last : Option (List ℕ)) (old new : List KeyValue) → EndsWith field last old
    → new ≡ old ++ key_added field last word → EndsWith field (Some word) new
ends_more field word last old new before is =
    subst (EndsWith field (Some word)) (sym is) (ends_after field word last old before)

pushed_first : (field word : List ℕ) (old rest : List KeyValue) → old ++ Word field word ∷ rest
    ≡ (old ++ Word field word ∷ []) ++ rest
pushed_first field word old rest = sym (append_assoc old (Word field word ∷ []) rest)

added_first : (field word : List ℕ) (last : Option (List ℕ)) (old : List KeyValue) (ws : List (List ℕ))
    → old ++ map (Word field) (differing last (word ∷ ws)) ≡ (old ++ key_added field last word)
    ++ map (Word field) (differing (Some word) ws)
added_first field word None old ws = pushed_first field word old (map (Word field) (differing (Some word) ws))
added_first field word (Some w) old ws = by_test (bytes_eq w word) refl
  where
    by_test : (b : Bool) → bytes_eq w word ≡ b
        → old ++ map (Word field) (cond b (differing (Some w) ws) (word ∷ differing (Some word) ws))
        ≡ (old ++ cond b [] (Word field word ∷ [])) ++ map (Word field) (differing (Some word) ws)
    by_test true same =
        ap (λ v. old ++ map (Word field) (differing (Some v) ws)) (sym (same_word word w same))
        ∙ ap (λ xs. xs ++ map (Word field) (differing (Some word) ws)) (sym (append-nil old))
    by_test false other = pushed_first field word old (map (Word field) (differing (Some word) ws))

-- a posting more: the keys so far and those to come are all keys
pub keys_more : (field : List ℕ) (last : Option (List ℕ)) (old new whole : List KeyValue) (ps : List Place) (i : ℕ)
    (p : Place) → i < length ps → p ≡ get_or ps i p → new ≡ old ++ key_added field last p.0
    → old ++ map (Word field) (differing last (words_at (drop i ps))) ≡ whole
    → new ++ map (Word field) (differing (Some p.0) (words_at (drop (i + 1) ps))) ≡ whole
keys_more field last old new whole ps i p lt is grown so =
    let rest = words_at (drop (i + 1) ps) in
    ap (λ ks. ks ++ map (Word field) (differing (Some p.0) rest)) grown
    ∙ sym (added_first field p.0 last old rest)
    ∙ ap (λ (q : Place). old ++ map (Word field) (differing last (q.0 ∷ rest))) is
    ∙ ap (λ qs. old ++ map (Word field) (differing last (words_at qs))) (sym (drop_more ps i p lt))
    ∙ so

-- ---- places that are written

-- a place of a word's key stays its place while keys are added
pub still_there : (keys more : List KeyValue) (n : ℕ) (field word : List ℕ) → term_at keys n ≡ Word field word
    → term_at (keys ++ more) n ≡ Word field word
still_there [] more n field word is = let e : Any ≡ Word field word = is in cc
still_there (k ∷ keys) more zero field word is = is
still_there (k ∷ keys) more (suc n) field word is = still_there keys more n field word is

module _ (field : List ℕ) (words : List (List ℕ)) (old more new : List KeyValue) (places : List ℕ) (x : Place) (v : ℕ)
    (long : length words ≡ length places) (grown : new ≡ old ++ more) (last : v
    ≡ length new - 1) (ends : EndsWith field (Some x.0) new)
    (there : slice_get words x.1 ≡ Some x.0) where
  placed_now : IsPlaced field new (set places x.1 v) x
  placed_now =
      ap (term_at new) (get_or-set_same places x.1 v 0 (omega (arith, long, slice_get_within words x.1 x.0 there))
      ∙ last) ∙ ends.1

  still_placed : (p : Place) → slice_get words p.1 ≡ Some p.0 → IsPlaced field old places p
      → IsPlaced field new (set places x.1 v) p
  still_placed p is before =
      elim (cases_eq p.1 x.1) [
        | inl e ↦
            let one : ◌≡◌ {A = Option (List ℕ)} (Some x.0) (Some p.0) = sym there ∙ ap (slice_get words) (sym e) ∙ is in
            let same : x.0 ≡ p.0 = cc in
            ap (λ n. term_at new (get_or (set places x.1 v) n 0)) e ∙ placed_now ∙ ap (Word field) same
        | inr ne ↦
            ap (term_at new) (get_or-set_other places x.1 p.1 v 0 ne)
            ∙ ap (λ ks. term_at ks (get_or places p.1 0)) grown
            ∙ still_there old more (get_or places p.1 0) field p.0 before
      ]

  -- a posting more is placed
  placed_next : (ps : List Place) (i : ℕ) → i < length ps → x ≡ get_or ps i x
      → All (λ (p : Place). slice_get words p.1 ≡ Some p.0) ps → All (IsPlaced field old places) (take i ps)
      → All (IsPlaced field new (set places x.1 v)) (take (i + 1) ps)
  placed_next ps i lt is each before =
      All-more (IsPlaced field new (set places x.1 v)) ps i x lt
      (λ k d inside. still_placed (get_or (take i ps) k d)
      (All-take (λ (p : Place). slice_get words p.1 ≡ Some p.0) i ps each k d inside) (before k d inside))
      (subst (IsPlaced field new (set places x.1 v)) is placed_now)

-- the posting's position is within the places
pub position_within : (ps : List Place) (count : ℕ) (i : ℕ) (x : Place) → AreOfWords ps count → i < length ps
    → x ≡ get_or ps i x → x.1 < count
position_within ps count i x of lt is =
    let there : slice_get of.words x.1 ≡ Some x.0 =
    subst (λ (p : Place). slice_get of.words p.1 ≡ Some p.0) (sym is) (of.each i x lt) in
    omega (arith, slice_get_within of.words x.1 x.0 there, of.long)

pub placed_more : (field : List ℕ) (last : Option (List ℕ)) (old new : List KeyValue) (places : List ℕ) (v count : ℕ)
    (ps : List Place) (i : ℕ) (x : Place) → AreOfWords ps count → length places ≡ count
    → i < length ps → x ≡ get_or ps i x → new ≡ old ++ key_added field last x.0 → v ≡ length new - 1
    → EndsWith field last old → All (IsPlaced field old places) (take i ps)
    → All (IsPlaced field new (set places x.1 v)) (take (i + 1) ps)
placed_more field last old new places v count ps i x of long lt is grown v-is before so =
    let there : slice_get of.words x.1 ≡ Some x.0 =
    subst (λ (p : Place). slice_get of.words p.1 ≡ Some p.0) (sym is) (of.each i x lt) in
    placed_next field of.words old (key_added field last x.0) new places x v (of.long
    ∙ sym long) grown v-is (ends_more field x.0 last old new before grown) there ps i lt is of.each so

-- ---- a field's postings

each_numbered : (all front ws : List (List ℕ)) → all ≡ front ++ ws
    → All (λ (p : Place). slice_get all p.1 ≡ Some p.0) (numbered (length front) ws)
each_numbered all front [] is = All-nil (λ (p : Place). slice_get all p.1 ≡ Some p.0)
each_numbered all front (w ∷ ws) is =
    let on : length front + 1 ≡ length (front ++ w ∷ []) = omega (arith, length-append front (w ∷ [])) in
    let later = each_numbered all (front ++ w ∷ []) ws (is ∙ sym (append_assoc front (w ∷ []) ws)) in
    All-cons (λ (p : Place). slice_get all p.1 ≡ Some p.0) (w, length front) (numbered (length front + 1) ws)
    (ap (λ xs. slice_get xs (length front)) is ∙ word_got front w ws)
    (subst (λ n. All (λ (p : Place). slice_get all p.1 ≡ Some p.0) (numbered n ws)) (sym on) later)
  where
    word_got : (front : List (List ℕ)) (w : List ℕ) (ws : List (List ℕ)) → slice_get (front ++ w ∷ ws) (length front)
        ≡ Some w
    word_got [] w ws = refl
    word_got (x ∷ front) w ws = word_got front w ws

-- each posting of the numbered words in another order is of the word at its position
pub posted : (words : List (List ℕ)) (ps : List Place) → IsPermutation (numbered 0 words) ps
    → All (λ (p : Place). slice_get words p.1 ≡ Some p.0) ps
posted words ps moved = All-permutation (λ (p : Place). slice_get words p.1 ≡ Some p.0) (numbered 0 words) ps moved
    (each_numbered words [] words refl)

-- postings that are the numbered words in another order are of them
pub of_words : (words : List (List ℕ)) (ps : List Place) (count : ℕ) → IsPermutation (numbered 0 words) ps
    → length words ≡ count → AreOfWords ps count
of_words words ps count moved long = record {
  words = words;
  long = long;
  each = posted words ps moved;
}

read_back : (field : List ℕ) (keys : List KeyValue) (all front ps : List ℕ) (ws : List (List ℕ)) → all ≡ front ++ ps
    → length ps ≡ length ws → All (IsPlaced field keys all) (numbered (length front) ws)
    → map (term_at keys) ps ≡ map (Word field) ws
read_back field keys all front [] [] is long placed = refl
read_back field keys all front [] (w ∷ ws) is long placed = absurd (omega arith)
read_back field keys all front (p ∷ ps) [] is long placed = absurd (omega arith)
read_back field keys all front (p ∷ ps) (w ∷ ws) is long placed =
    let on : length front + 1 ≡ length (front ++ p ∷ []) = omega (arith, length-append front (p ∷ [])) in
    let read : get_or all (length front) 0 ≡ p = ap (λ xs. get_or xs (length front) 0) is
    ∙ get_or_at front p ps 0 (length front) refl in
    let here : term_at keys p ≡ Word field w =
    ap (term_at keys) (sym read)
    ∙ All-head (IsPlaced field keys all) (w, length front) (numbered (length front + 1) ws) placed in
    let tail = All-tail (IsPlaced field keys all) (w, length front) (numbered (length front + 1) ws) placed in
    let later = read_back field keys all (front ++ p ∷ []) ps ws (is
    ∙ sym (append_assoc front (p ∷ []) ps)) (omega arith)
    (subst (λ n. All (IsPlaced field keys all) (numbered n ws)) on tail) in
    λ i. here i ∷ later i

-- where each posting is placed, the places name the words in order
pub all_placed : (field : List ℕ) (keys : List KeyValue) (places : List ℕ) (words : List (List ℕ)) (ps : List Place)
    → IsPermutation (numbered 0 words) ps → length places ≡ length words → All (IsPlaced field keys places) ps
    → map (term_at keys) places ≡ map (Word field) words
all_placed field keys places words ps moved long placed =
    read_back field keys places [] places words refl long
    (All-permutation (IsPlaced field keys places) ps (numbered 0 words)
    (IsPermutation-sym (numbered 0 words) ps moved) placed)
