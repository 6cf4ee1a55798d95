-- The keys of a query that are words are among the words that it asks for.
use Rattle.std.proofs.Common.{◌≡◌, ℕ, Bool, true, false, ◌||◌, ◌&&◌, List, [], ◌∷◌, ◌++◌, map, flat_map, fold}
use Rattle.std.proofs.Common.{◌≤◌, length, take, unwrap_or, cond, ltb, refl, sym, ap, ◌∙◌}
use Rattle.std.specs.List.{list_all, list_any}
use Rattle.std.proofs.lemmas.Bool.{false≢true}
use Rattle.std.proofs.lemmas.List.{take_all}
use Rattle.std.proofs.lemmas.List.Folds.{list_any-append}
use Rattle.clip_grammar.specs.Tree.{Tree, Clauses, none, clause}
use Rattle.clip_grammar.specs.declared.query.Occur.{Occur}
use Rattle.clip_grammar.specs.declared.query.Occur.TheVariants.{Must, Should, MustNot}
use Rattle.clip_grammar.proofs.Booleans.{either}
use Rattle.clip_meaning.proofs.Numbered.{any_filter}
use Rattle.clip_extract.specs.Keys.{KeyValue, Any, Word, Front, is_same, in_order}
use Rattle.clip_extract.specs.Extraction.{Extracted, unnarrowed, word_extract, front_extract, heavier, together}
use Rattle.clip_extract.specs.Extraction.{heaviest, union, musts, shoulds, group_extract, extract, extracts}
use Rattle.clip_extract.specs.Extraction.{query_keys, without_heaviest, second_found, is_word, second_extract}
use Rattle.clip_extract.specs.Extraction.{second_keys}
use Rattle.clip_extract.specs.Fronts.{key_front}
use Rattle.clip_extract.proofs.Members.{any_flat_map, strict_keys}
use Rattle.clip_extract.proofs.Order.{key_cmp_total, key_cmp_same, same_key, among_in_order}
use Rattle.clip_terms.proofs.Numbers.{in_order_rises}
use Rattle.clip_plan.specs.Plan.{word_keys, clause_word_keys}
use Rattle.clip_segment.specs.Index.{asked_of}
use Rattle.clip_segment.specs.Steps.Needed.{is_other, others, needed_of}
use Rattle.clip_segment.proofs.AnyOf.{any_and}
use Rattle.clip_segment.proofs.Asked.{in_first, in_second}

-- each word of some keys is among others
abbrev AreAmong : (words keys : List KeyValue) → Type 0
AreAmong words keys = (key : KeyValue) → is_word key ≡ true → list_any (is_same key) keys ≡ true
    → list_any (is_same key) words ≡ true

abbrev AllAmong : (words : List KeyValue) → List Extracted → Type 0
AllAmong words [] = Unit {0}
AllAmong words (e ∷ es) = AreAmong words e.keys × AllAmong words es

abbrev EachAmong : (words : List KeyValue) → List (Occur × Extracted) → Type 0
EachAmong words [] = Unit {0}
EachAmong words (c ∷ cs) = AreAmong words c.1.keys × EachAmong words cs

-- more words
abbrev Grow : (ks ls : List KeyValue) → Type 0
Grow ks ls = (key : KeyValue) → list_any (is_same key) ks ≡ true → list_any (is_same key) ls ≡ true

each_grow : (ks ls : List KeyValue) (cs : List (Occur × Extracted)) → Grow ks ls → EachAmong ks cs → EachAmong ls cs
each_grow ks ls [] grow all = tt
each_grow ks ls (c ∷ cs) grow all = ((λ key word h. grow key (all.0 key word h)), each_grow ks ls cs grow all.1)

-- nothing that narrows is no word, nor is a front
any_among : (words : List KeyValue) → AreAmong words (Any ∷ [])
any_among words Any word h = absurd (false≢true word)
any_among words (Word f w) word h = absurd (false≢true h)
any_among words (Front f w) word h = absurd (false≢true word)

front_among : (words : List KeyValue) (field front : List ℕ) → AreAmong words (front_extract field front).keys
front_among words field [] key word h = any_among words key word h
front_among words field (b ∷ bs) Any word h = absurd (false≢true word)
front_among words field (b ∷ bs) (Word f w) word h = absurd (false≢true h)
front_among words field (b ∷ bs) (Front f w) word h = absurd (false≢true word)

-- ---- the heaviest, and all

heavier_among : (words : List KeyValue) (e : Extracted) (es : List Extracted) → AreAmong words e.keys
    → AllAmong words es → AreAmong words (fold heavier e es).keys
heavier_among words e [] here all = here
heavier_among words e (f ∷ es) here all =
    heavier_among words (heavier e f) es
    (elim (ltb e.weight f.weight) as (λ t. AreAmong words (cond t f e).keys) [ true ↦ all.0 | false ↦ here ]) all.1

together_among : (words : List KeyValue) (e : Extracted) (es : List Extracted) → AreAmong words e.keys
    → AllAmong words es → AreAmong words (fold together e es).keys
together_among words e [] here all = here
together_among words e (f ∷ es) here all =
    together_among words (together e f) es
    (λ key word h.
    either (list_any (is_same key) e.keys) (list_any (is_same key) f.keys)
    (sym (list_any-append (is_same key) e.keys f.keys) ∙ h) (here key word) (all.0 key word)) all.1

heaviest_among : (words : List KeyValue) (es : List Extracted) (other : Extracted) → AllAmong words es
    → AreAmong words other.keys → AreAmong words (unwrap_or (heaviest es) other).keys
heaviest_among words [] other all one = one
heaviest_among words (e ∷ es) other all one = heavier_among words e es all.0 all.1

union_among : (words : List KeyValue) (es : List Extracted) (other : Extracted) → AllAmong words es
    → AreAmong words other.keys → AreAmong words (unwrap_or (union es) other).keys
union_among words [] other all one = one
union_among words (e ∷ es) other all one = together_among words e es all.0 all.1

musts_among : (words : List KeyValue) (cs : List (Occur × Extracted)) → EachAmong words cs → AllAmong words (musts cs)
musts_among words [] all = tt
musts_among words ((Must, e) ∷ cs) all = (all.0, musts_among words cs all.1)
musts_among words ((Should, e) ∷ cs) all = musts_among words cs all.1
musts_among words ((MustNot, e) ∷ cs) all = musts_among words cs all.1

shoulds_among : (words : List KeyValue) (cs : List (Occur × Extracted)) → EachAmong words cs
    → AllAmong words (shoulds cs)
shoulds_among words [] all = tt
shoulds_among words ((Must, e) ∷ cs) all = shoulds_among words cs all.1
shoulds_among words ((Should, e) ∷ cs) all = (all.0, shoulds_among words cs all.1)
shoulds_among words ((MustNot, e) ∷ cs) all = shoulds_among words cs all.1

group_among : (words : List KeyValue) (cs : List (Occur × Extracted)) → EachAmong words cs
    → AreAmong words (group_extract cs).keys
unfolding group_extract
group_among words cs all =
    heaviest_among words (musts cs) (unwrap_or (union (shoulds cs)) unnarrowed) (musts_among words cs all)
    (union_among words (shoulds cs) unnarrowed (shoulds_among words cs all) (any_among words))

-- ---- of a query

phrase_among : (words : List KeyValue) (field : List ℕ) (texts : List (List ℕ)) → Grow (map (Word field) texts) words
    → AllAmong words (map (word_extract field) texts)
phrase_among words field [] grow = tt
phrase_among words field (t ∷ texts) grow = (
  (λ key word h. grow key (in_first (is_same key) (Word field t ∷ []) (map (Word field) texts) h)),
  phrase_among words field texts
      (λ key h. grow key (in_second (is_same key) (Word field t ∷ []) (map (Word field) texts) h)),
)

mutual
  words_among : (tree : Tree) → AreAmong (word_keys tree) (extract tree).keys
  words_among (Tree.Term field word) = λ key is h. h
  words_among (Tree.Phrase field texts) =
      heaviest_among (map (Word field) texts) (map (word_extract field) texts) unnarrowed
      (phrase_among (map (Word field) texts) field texts (λ key h. h)) (any_among (map (Word field) texts))
  words_among (Tree.Prefix field front) = front_among [] field (key_front front)
  words_among (Tree.Span field low high) = any_among []
  words_among Tree.All = any_among []
  words_among (Tree.Group clauses) =
      group_among (clause_word_keys clauses) (extracts clauses) (clauses_among clauses)

  clauses_among : (clauses : Clauses) → EachAmong (clause_word_keys clauses) (extracts clauses)
  clauses_among none = tt
  clauses_among (clause occur child behind) =
      let words = word_keys child in
      let more = clause_word_keys behind in (
        (λ key is h. in_first (is_same key) words more (words_among child key is h)),
        each_grow more (words ++ more) (extracts behind) (λ key h. in_second (is_same key) words more h)
            (clauses_among behind),
      )

without_among : (words : List KeyValue) (es : List Extracted) → AllAmong words es
    → AllAmong words (without_heaviest es)
without_among words [] all = tt
without_among words (e ∷ es) all =
    elim (list_any (λ f. ltb e.weight f.weight) es) as (λ t. AllAmong words (cond t (e ∷ without_heaviest es) es)) [
      | true ↦ (all.0, without_among words es all.1)
      | false ↦ all.1
    ]

found_among : (tree : Tree) → AreAmong (word_keys tree) (unwrap_or (second_found tree) unnarrowed).keys
found_among (Tree.Term field word) = any_among (Word field word ∷ [])
found_among (Tree.Phrase field texts) = any_among (map (Word field) texts)
found_among (Tree.Prefix field front) = any_among []
found_among (Tree.Span field low high) = any_among []
found_among Tree.All = any_among []
found_among (Tree.Group clauses) =
    let words = clause_word_keys clauses in
    heaviest_among words (without_heaviest (musts (extracts clauses))) unnarrowed
    (without_among words (musts (extracts clauses)) (musts_among words (extracts clauses) (clauses_among clauses)))
    (any_among words)

seconds_among : (tree : Tree) → AreAmong (word_keys tree) (second_extract tree)
seconds_among tree =
    let found = (unwrap_or (second_found tree) unnarrowed).keys in
    elim (list_all is_word found) as (λ t. AreAmong (word_keys tree) (cond t found [])) [
      | true ↦ found_among tree
      | false ↦ λ key is h. absurd (false≢true h)
    ]

-- ---- what has to be added

other_or_word : (key : KeyValue) → is_other key ≡ false → is_word key ≡ true
other_or_word Any h = absurd (false≢true (sym h))
other_or_word (Word field word) h = refl
other_or_word (Front field front) h = absurd (false≢true (sym h))

and_false : (b : Bool) → (b && false) ≡ false
and_false true = refl
and_false false = refl

others_with : (key : KeyValue) (keys : List KeyValue) → list_any (is_same key) (others keys)
    ≡ (list_any (is_same key) keys && is_other key)
others_with key keys =
    any_filter is_other (is_same key) keys ∙ ap (λ f. list_any f keys) (λ i x. one x i)
    ∙ any_and (is_same key) (is_other key) keys
  where
    one : (x : KeyValue) → (is_other x && is_same key x) ≡ (is_same key x && is_other key)
    one x = elim (is_same key x) as (λ t. is_same key x ≡ t → (is_other x && t) ≡ (t && is_other key)) [
      | true ↦ λ h. swapped (is_other x) ∙ ap is_other (sym (same_key key x h))
      | false ↦ λ h. and_false (is_other x)
    ] refl
      where
        swapped : (b : Bool) → (b && true) ≡ b
        swapped true = refl
        swapped false = refl

either_needed : (q s w o : Bool) → (o ≡ false → q ≡ true → w ≡ true) → (o ≡ false → s ≡ true → w ≡ true)
    → (((q && o) || (s && o)) || w) ≡ ((q || s) || w)
either_needed true s w true first second = refl
either_needed false true w true first second = refl
either_needed false false w true first second = refl
either_needed true true w false first second = first refl refl
either_needed true false w false first second = first refl refl
either_needed false true w false first second = second refl refl
either_needed false false w false first second = refl

needed_is_asked : (key : KeyValue) (tree : Tree) → list_any (is_same key) (needed_of tree)
    ≡ list_any (is_same key) (asked_of tree)
needed_is_asked key tree =
    let p = is_same key in
    let q = (extract tree).keys in
    let s = second_extract tree in
    let w = word_keys tree in
    list_any-append p (others q ++ others s) w
    ∙ ap (λ b. b || list_any p w) (list_any-append p (others q) (others s)
    ∙ (λ i. others_with key q i || others_with key s i))
    ∙ either_needed (list_any p q) (list_any p s) (list_any p w) (is_other key)
    (λ other h. words_among tree key (other_or_word key other) h)
    (λ other h. seconds_among tree key (other_or_word key other) h)
    ∙ ap (λ b. b || list_any p w) ((λ i. sym (among_in_order q key) i || sym (among_in_order s key) i)
    ∙ sym (list_any-append p (query_keys tree) (second_keys tree)))
    ∙ sym (list_any-append p (query_keys tree ++ second_keys tree) w)

-- with these the terms are all there
pub needed_terms : (trees : List Tree) → in_order (flat_map needed_of trees) ≡ in_order (flat_map asked_of trees)
needed_terms trees =
    strict_keys key_cmp_total key_cmp_same (in_order (flat_map needed_of trees)) (flat_map asked_of trees)
    (in_order_rises (flat_map needed_of trees))
    (λ key. among_in_order (flat_map needed_of trees) key ∙ any_flat_map (is_same key) needed_of trees
    ∙ ap (λ f. list_any f trees) (λ i tree. needed_is_asked key tree i)
    ∙ sym (any_flat_map (is_same key) asked_of trees))

-- and so where they are of all queries
pub all_needed : {A : Type 0} (seen : A → Tree) (items : List A) (i : ℕ) (keys : List KeyValue) → length items ≤ i
    → keys ≡ flat_map needed_of (map seen (take i items))
    → in_order keys ≡ in_order (flat_map asked_of (map seen items))
all_needed seen items i keys end are =
    ap in_order (are ∙ ap (λ xs. flat_map needed_of (map seen xs)) (take_all i items end))
    ∙ needed_terms (map seen items)
