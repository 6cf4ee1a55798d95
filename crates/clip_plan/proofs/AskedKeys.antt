-- What an article's keys say of its words.
use Rattle.std.proofs.Common.{◌≡◌, ℕ, Bool, true, false, ◌&&◌, ◌||◌, cond, List, [], ◌∷◌, map, Some, unwrap_or}
use Rattle.std.proofs.Common.{flat_map, is_eq, is_lt, refl, sym, ap, ◌∙◌}
use Rattle.std.specs.FinMap as finite
use Rattle.std.specs.FinMap.Entries.{is_sorted, below_all}
use Rattle.std.specs.List.{list_any, starts_with}
use Rattle.std.specs.Str.{bytes_eq}
use Rattle.std.specs.Ordering.{eq_by_cmp}
use Rattle.std.specs.Cmp.{Equal-is, tied_itself}
use Rattle.std.specs.Cmp.Lexicographic.{nat_list_cmp_total}
use Rattle.std.proofs.lemmas.Bool.{and_parts, false≢true}
use Rattle.std.proofs.lemmas.List.Folds.{list_any-append}
use Rattle.std.proofs.lemmas.Slice.Eq.{bytes_eq-Decides}
use Rattle.clip_words.specs.Order.{bytes_cmp}
use Rattle.clip_grammar.proofs.Booleans.{same_answer}
use Rattle.clip_meaning.specs.Article.{Fields, words_in}
use Rattle.clip_meaning.proofs.Fields.{Entry, bytes_exact}
use Rattle.clip_meaning.specs.Meaning as meaning
use Rattle.clip_extract.specs.Keys.{KeyValue, Any, Word, Front, is_same}
use Rattle.clip_extract.specs.Fronts.{fronts}
use Rattle.clip_extract.specs.Covering.{field_keys, front_keys}
use Rattle.clip_extract.proofs.Covers.{all_keys}
use Rattle.clip_extract.proofs.Members.{entries_in_order, less_from}
use Rattle.clip_extract.proofs.Order.{same_itself, same_key, among_in_order}
use Rattle.clip_terms.specs.Reading.{has_key, has_run, stands_in}

-- ---- the entry of a field

refused : (b : Bool) → (b ≡ true → ⊥) → b ≡ false
refused true not = absurd (not refl)
refused false not = refl

pub or_false : (b : Bool) → (b || false) ≡ b
or_false true = refl
or_false false = refl

-- a field below all others is none of them
none_above : (p : Entry → Bool) (f : List ℕ) → ((e : Entry) → eq_by_cmp bytes_cmp f e.0 ≡ false → p e ≡ false)
    → (es : List Entry) → below_all bytes_cmp f es ≡ true → list_any p es ≡ false
none_above p f others [] below = refl
none_above p f others (e ∷ es) below =
    let parts = and_parts (is_lt (bytes_cmp f e.0)) (below_all bytes_cmp f es) below in
    ap (λ b. b || list_any p es) (others e (ap is_eq (less_from (bytes_cmp f e.0) parts.0)))
    ∙ none_above p f others es parts.1

-- a test that only a field's own entry can pass tests the field's words
only_own : (p : Entry → Bool) (q : List (List ℕ) → Bool) (f : List ℕ) → q [] ≡ false
    → ((e : Entry) → eq_by_cmp bytes_cmp f e.0 ≡ false → p e ≡ false) → ((ws : List (List ℕ)) → p (f, ws) ≡ q ws)
    → (es : List Entry) → is_sorted bytes_cmp es ≡ true → list_any p es ≡ q (unwrap_or (finite.find bytes_cmp f es) [])
only_own p q f empty others own [] sorted = sym empty
only_own p q f empty others own (e ∷ es) sorted =
    let parts = and_parts (below_all bytes_cmp e.0 es) (is_sorted bytes_cmp es) sorted in
    elim (eq_by_cmp bytes_cmp f e.0) as (λ t. eq_by_cmp bytes_cmp f e.0 ≡ t
    → (p e || list_any p es) ≡ q (unwrap_or (cond t (Some e.1) (finite.find bytes_cmp f es)) [])) [
      | true ↦ λ t.
          let same : f ≡ e.0 = bytes_exact f e.0 ((Equal-is (bytes_cmp f e.0)).0 t) in
          ap (λ b. p e || b) (none_above p f others es (ap (λ g. below_all bytes_cmp g es) same ∙ parts.0))
          ∙ or_false (p e) ∙ ap (λ g. p (g, e.1)) (sym same) ∙ own e.1
      | false ↦ λ t. ap (λ b. b || list_any p es) (others e t) ∙ only_own p q f empty others own es parts.1
    ] refl

own_words : (p : Entry → Bool) (q : List (List ℕ) → Bool) (f : List ℕ) (fields : Fields) → q [] ≡ false
    → ((e : Entry) → eq_by_cmp bytes_cmp f e.0 ≡ false → p e ≡ false) → ((ws : List (List ℕ)) → p (f, ws) ≡ q ws)
    → list_any p (finite.entries fields) ≡ q (words_in fields f)
own_words p q f fields empty others own =
    only_own p q f empty others own (finite.entries fields) (entries_in_order bytes_cmp fields)
    ∙ ap (λ o. q (unwrap_or o [])) (sym (finite.get-entries fields f))

-- ---- words as keys

field_in : List ℕ → KeyValue → List ℕ
field_in other Any = other
field_in other (Word field word) = field
field_in other (Front field front) = field

word_in : KeyValue → List ℕ
word_in Any = []
word_in (Word field word) = word
word_in (Front field front) = front

apart : (f g w v : List ℕ) → eq_by_cmp bytes_cmp f g ≡ false → is_same (Word f w) (Word g v) ≡ false
unfolding field_in
apart f g w v differ =
    refused _ (λ t.
    let same : f ≡ g = ap (field_in f) (same_key (Word f w) (Word g v) t) in
    false≢true (sym differ ∙ ap (λ h. eq_by_cmp bytes_cmp f h) (sym same)
    ∙ ap is_eq (tied_itself nat_list_cmp_total f)))

same_word : (f w v : List ℕ) → is_same (Word f w) (Word f v) ≡ true → w ≡ v
unfolding word_in
same_word f w v t = ap word_in (same_key (Word f w) (Word f v) t)

is_word : (f w v : List ℕ) → is_same (Word f w) (Word f v) ≡ bytes_eq w v
is_word f w v =
    same_answer _ _
    (λ t. (bytes_eq-Decides w v).1 (same_word f w v t))
    (λ t. ap (λ u. is_same (Word f w) (Word f u)) (sym ((bytes_eq-Decides w v).0 t)) ∙ same_itself (Word f w))

is_word_back : (f w v : List ℕ) → is_same (Word f w) (Word f v) ≡ bytes_eq v w
is_word_back f w v =
    is_word f w v ∙ same_answer _ _
    (λ t. (bytes_eq-Decides v w).1 (sym ((bytes_eq-Decides w v).0 t)))
    (λ t. (bytes_eq-Decides w v).1 (sym ((bytes_eq-Decides v w).0 t)))

-- ---- a word

among_fields : (p : KeyValue → Bool) (es : List Entry) → list_any p (flat_map field_keys es)
    ≡ list_any (λ e. list_any p (field_keys e)) es
among_fields p [] = refl
among_fields p (e ∷ es) = list_any-append p (field_keys e) (flat_map field_keys es)
    ∙ ap (λ b. list_any p (field_keys e) || b) (among_fields p es)

no_word : (f g w : List ℕ) → eq_by_cmp bytes_cmp f g ≡ false → (vs : List (List ℕ))
    → list_any (is_same (Word f w)) (map (Word g) vs) ≡ false
no_word f g w differ [] = refl
no_word f g w differ (v ∷ vs) = ap (λ b. b || list_any (is_same (Word f w)) (map (Word g) vs)) (apart f g w v differ)
    ∙ no_word f g w differ vs

some_word : (f w : List ℕ) (vs : List (List ℕ)) → list_any (is_same (Word f w)) (map (Word f) vs)
    ≡ list_any (λ v. bytes_eq v w) vs
some_word f w [] = refl
some_word f w (v ∷ vs) = ap (λ b. b || list_any (is_same (Word f w)) (map (Word f) vs)) (is_word_back f w v)
    ∙ ap (λ b. bytes_eq v w || b) (some_word f w vs)

no_front : (f w g : List ℕ) (fs : List (List ℕ)) → list_any (is_same (Word f w)) (map (Front g) fs) ≡ false
no_front f w g [] = refl
no_front f w g (x ∷ fs) = no_front f w g fs

-- a word is no front
no_fronts : (f w : List ℕ) (es : List Entry) → list_any (is_same (Word f w)) (flat_map front_keys es) ≡ false
no_fronts f w [] = refl
no_fronts f w (e ∷ es) =
    list_any-append (is_same (Word f w)) (front_keys e) (flat_map front_keys es)
    ∙ (λ i. no_front f w e.0 (flat_map fronts e.1) i || no_fronts f w es i)

-- an article has a word's key where the field has the word
pub has_word_key : (fields : Fields) (f w : List ℕ)
    → has_key fields (Word f w) ≡ list_any (λ v. bytes_eq v w) (words_in fields f)
has_word_key fields f w =
    among_in_order (all_keys fields) (Word f w)
    ∙ list_any-append (is_same (Word f w)) (Any ∷ flat_map field_keys (finite.entries fields))
    (flat_map front_keys (finite.entries fields))
    ∙ ap (λ b. list_any (is_same (Word f w)) (flat_map field_keys (finite.entries fields))
    || b) (no_fronts f w (finite.entries fields))
    ∙ or_false (list_any (is_same (Word f w)) (flat_map field_keys (finite.entries fields)))
    ∙ among_fields (is_same (Word f w)) (finite.entries fields)
    ∙ own_words (λ e. list_any (is_same (Word f w)) (field_keys e)) (λ vs. list_any (λ v. bytes_eq v w) vs) f fields
    refl
    (λ e differ. no_word f e.0 w differ e.1)
    (some_word f w)

-- ---- a run of words

pub begins_same : (f : List ℕ) (vs ws : List (List ℕ)) → starts_with is_same (map (Word f) vs) (map (Word f) ws)
    ≡ starts_with bytes_eq vs ws
begins_same f [] [] = refl
begins_same f [] (w ∷ ws) = refl
begins_same f (v ∷ vs) [] = refl
begins_same f (v ∷ vs) (w ∷ ws) =
    ap (λ b. b && starts_with is_same (map (Word f) vs) (map (Word f) ws)) (is_word f w v)
    ∙ ap (λ b. bytes_eq w v && b) (begins_same f vs ws)

stands_same : (f : List ℕ) (ws vs : List (List ℕ)) → stands_in (map (Word f) ws) (map (Word f) vs)
    ≡ meaning.has_run vs ws
stands_same f ws [] = refl
stands_same f ws (v ∷ vs) =
    ap (λ b. b || stands_in (map (Word f) ws) (map (Word f) vs)) (begins_same f (v ∷ vs) ws)
    ∙ ap (λ b. starts_with bytes_eq (v ∷ vs) ws || b) (stands_same f ws vs)

stands_apart : (f g w : List ℕ) (ws : List (List ℕ)) → eq_by_cmp bytes_cmp f g ≡ false → (vs : List (List ℕ))
    → stands_in (map (Word f) (w ∷ ws)) (map (Word g) vs) ≡ false
stands_apart f g w ws differ [] = refl
stands_apart f g w ws differ (v ∷ vs) =
    ap (λ b. (b && starts_with is_same (map (Word g) vs) (map (Word f) ws))
    || stands_in (map (Word f) (w ∷ ws)) (map (Word g) vs)) (apart f g w v differ)
    ∙ stands_apart f g w ws differ vs

-- an article has a run of words' keys where the field has the words as a phrase
pub has_word_run : (fields : Fields) (f : List ℕ) (ws : List (List ℕ)) → has_run fields (map (Word f) ws)
    ≡ meaning.has_phrase (words_in fields f) ws
has_word_run fields f [] = refl
has_word_run fields f (w ∷ ws) =
    own_words (λ e. stands_in (map (Word f) (w ∷ ws)) (field_keys e)) (λ vs. meaning.has_run vs (w ∷ ws)) f fields refl
    (λ e differ. stands_apart f e.0 w ws differ e.1)
    (stands_same f (w ∷ ws))
