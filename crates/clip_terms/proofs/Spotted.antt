-- Spots: where the term of a number stands in a field, and which positions a run of numbers covers.
use Rattle.std.proofs.Common.{◌≡◌, ℕ, zero, suc, ◌+◌, ◌<◌, Bool, true, false, ◌&&◌, ◌||◌, nat_eq, nat_lt, nat_le}
use Rattle.std.proofs.Common.{List, [], ◌∷◌, map, length, drop, get_or, bytes_eq, Option, unwrap_or, refl, sym, ap}
use Rattle.std.proofs.Common.{◌∙◌, arith, eq-eqb, eqb-true}
use Rattle.std.specs.List.{list_any, starts_with}
use Rattle.std.specs.List.Sorted.{IsStrictlySortedBy}
use Rattle.std.specs.Cmp.{eq_by_cmp_equiv}
use Rattle.std.specs.FinMap as finite
use Rattle.std.proofs.lemmas.Bool.{leb-true, ltb-true, ltb-false, le-leb, lt-ltb, and_parts, and_from}
use Rattle.std.proofs.lemmas.Bool.{false_from_ne_true, false≢true, true≢false}
use Rattle.std.proofs.lemmas.List.{length-map, get_or-map, drop-map}
use Rattle.std.proofs.lemmas.List.Folds.{list_any_at}
use Rattle.std.proofs.lemmas.Option.{slice_get_past, unwrap_or-slice_get}
use Rattle.std.proofs.lemmas.Slice.Eq.{bytes_eq-Decides}
use Rattle.clip_grammar.proofs.Booleans.{same_answer}
use Rattle.clip_meaning.specs.Article.{Fields}
use Rattle.clip_meaning.specs.Hits.{is_within}
use Rattle.clip_meaning.specs.Index.{numbered}
use Rattle.clip_meaning.proofs.Marks.{at_numbered, within_none}
use Rattle.clip_meaning.proofs.Numbered.{rest_dropped}
use Rattle.clip_extract.specs.Keys.{KeyValue, Any, Word, Front, key_cmp, is_same}
use Rattle.clip_extract.specs.Covering.{field_keys}
use Rattle.clip_extract.proofs.Order.{key_cmp_total, same_itself, same_key}
use Rattle.clip_terms.specs.Reading.{stands_in}
use Rattle.clip_terms.specs.Terms.{term_at, number_of}
use Rattle.clip_terms.specs.Spots.{FieldValue, is_at, covers_from, is_covered, is_word_of}
use Rattle.clip_terms.specs.Steps.FieldNumbers.{is_covered_from}
use Rattle.clip_terms.specs.Steps.Leads.{heading, IsPart}
use Rattle.clip_terms.specs.Steps.Runs.{begins_with}
use Rattle.clip_terms.specs.Steps.Spots.{IsOfArticle}
use Rattle.clip_terms.proofs.Runs.{begins, lacks}

-- ---- the words of a key

-- the word of a field is the key's where the field has the key's name and the word is the key's
pub at_word : (g w f v : List ℕ) → is_same (Word g w) (Word f v) ≡ (bytes_eq f g && bytes_eq w v)
at_word g w f v =
    same_answer _ _
    (λ t.
    let same : Word g w ≡ Word f v = same_key (Word g w) (Word f v) t in
    let field : f ≡ g = cc in
    let word : w ≡ v = cc in
    and_from (bytes_eq f g) (bytes_eq w v) ((bytes_eq-Decides f g).1 field) ((bytes_eq-Decides w v).1 word))
    (λ t.
    let parts = and_parts (bytes_eq f g) (bytes_eq w v) t in
    let field : f ≡ g = (bytes_eq-Decides f g).0 parts.0 in
    let word : w ≡ v = (bytes_eq-Decides w v).0 parts.1 in
    (λ i. is_same (Word g w) (Word (field i) (sym word i))) ∙ same_itself (Word g w))

-- a key that is of no word in fields of this name is that of none of their words
pub not_its_word : (name : List ℕ) (key : KeyValue) → is_word_of name key ≡ false → (w : List ℕ)
    → is_same (Word name w) key ≡ false
not_its_word name key other w =
    false_from_ne_true (is_same (Word name w) key) (λ same.
    false≢true (sym other ∙ ap (is_word_of name) (sym (same_key (Word name w) key same))
    ∙ (bytes_eq-Decides name name).1 refl))

-- a key with the heading of a field's words is of one
under_heading : (name : List ℕ) (key : KeyValue) → heading key ≡ heading (Word name []) → is_word_of name key ≡ true
under_heading name Any e = absurd (omega (arith, ap (λ h. h.0) e))
under_heading name (Word field word) e = (bytes_eq-Decides field name).1 (ap (λ h. h.1) e)
under_heading name (Front field front) e = absurd (omega (arith, ap (λ h. h.0) e))

heading_of : (name : List ℕ) (key : KeyValue) → is_word_of name key ≡ true → heading key ≡ heading (Word name [])
heading_of name Any e = absurd (false≢true e)
heading_of name (Word field word) e = ap (λ f. (1, f)) ((bytes_eq-Decides field name).0 e)
heading_of name (Front field front) e = absurd (false≢true e)

-- the terms of a part under the heading of a field's words are those that are of one
pub in_part : (terms : List KeyValue) (name : List ℕ) (start end n : ℕ)
    → IsPart terms (heading (Word name [])) start end → (nat_le start n && nat_lt n end)
    ≡ is_word_of name (term_at terms n)
in_part terms name start end n part =
    same_answer _ _
    (λ t.
    let there = and_parts (nat_le start n) (nat_lt n end) t in
    under_heading name (term_at terms n)
    (ap heading (unwrap_or-slice_get terms n Any)
    ∙ part.just n Any (leb-true start n there.0) (ltb-true n end there.1)))
    (λ t.
    let there = part.all n Any (inside t (nat_lt n (length terms)) refl)
    (ap heading (sym (unwrap_or-slice_get terms n Any)) ∙ heading_of name (term_at terms n) t) in
    and_from (nat_le start n) (nat_lt n end) (le-leb start n there.0) (lt-ltb n end there.1))
  where
    inside : is_word_of name (term_at terms n) ≡ true → (b : Bool) → nat_lt n (length terms) ≡ b → n < length terms
    inside t true e = ltb-true n (length terms) e
    inside t false e =
        absurd (false≢true (sym (ap (λ o. is_word_of name (unwrap_or o Any))
        (slice_get_past terms n (ltb-false n (length terms) e))) ∙ t))

single : (b : Bool) → (b && true) ≡ b
single true = refl
single false = refl

-- a run of one key stands where a word is the key's
one_stands : (name : List ℕ) (key : KeyValue) (ws : List (List ℕ)) → stands_in (key ∷ []) (map (Word name) ws)
    ≡ list_any (λ w. is_same (Word name w) key) ws
one_stands name key [] = refl
one_stands name key (w ∷ ws) =
    λ i. (single (is_same key (Word name w)) ∙ (eq_by_cmp_equiv key_cmp_total).symm key (Word name w)) i
    || one_stands name key ws i

-- a key that the article lacks is that of no word of a field of it
pub of_article : (fields : Fields) (place : ℕ) → place < length (finite.entries fields)
    → IsOfArticle fields (get_or (finite.entries fields) place ([], []))
of_article fields place lt key lacking =
    let field : FieldValue = get_or (finite.entries fields) place ([], []) in
    let stands : FieldValue → Bool = λ f. stands_in (key ∷ []) (field_keys f) in
    let nowhere : list_any stands (finite.entries fields) ≡ false =
    lacks fields (key ∷ []) (ap (λ b. b && true) lacking) in
    sym (one_stands field.0 key field.1)
    ∙ false_from_ne_true (stands field) (λ here. false≢true (sym nowhere
    ∙ list_any_at stands (finite.entries fields) place ([], []) lt here))

-- ---- a run

-- what covers from a word on, where the keys of the words from there on are these
from_word : (field : FieldValue) (keys : List KeyValue) (k start : ℕ) (w : List ℕ) (words : List (List ℕ))
    → drop start field.1 ≡ w ∷ words → covers_from field keys k start
    ≡ (starts_with is_same (map (Word field.0) (w ∷ words)) keys && is_within start (length keys) k)
from_word field keys k start w words e =
    ap (λ xs. starts_with is_same xs keys && is_within start (length keys) k) (drop-map (Word field.0) start field.1
    ∙ ap (map (Word field.0)) e)

-- a run of one number covers the position that it begins at
one_within : (start k : ℕ) → is_within start 1 k ≡ nat_eq k start
one_within start k =
    same_answer _ _
    (λ t. let parts = and_parts (nat_le start k) (nat_lt k (start + 1)) t in
    eq-eqb k start (omega (arith, leb-true start k parts.0, ltb-true k (start + 1) parts.1)))
    (λ t. let same : k ≡ start = eqb-true k start t in
    and_from (nat_le start k) (nat_lt k (start + 1)) (le-leb start k (omega (arith, same)))
    (lt-ltb k (start + 1) (omega (arith, same))))

-- a run of one key covers the positions where it stands
one_covered : (field : FieldValue) (key : KeyValue) (k start : ℕ) (words : List (List ℕ)) → drop start field.1 ≡ words
    → list_any (λ (p : List ℕ × ℕ). covers_from field (key ∷ []) k p.1) (numbered start words)
    ≡ list_any (λ (p : List ℕ × ℕ). is_same (Word field.0 p.0) key && nat_eq k p.1) (numbered start words)
one_covered field key k start [] e = refl
one_covered field key k start (w ∷ words) e =
    ap (λ b. b || list_any (λ (p : List ℕ × ℕ). covers_from field (key ∷ []) k p.1) (numbered (start + 1) words))
    (from_word field (key ∷ []) k start w words e
    ∙ (λ i. (single (is_same key (Word field.0 w)) ∙ (eq_by_cmp_equiv key_cmp_total).symm key (Word field.0 w)) i
    && one_within start k i))
    ∙ ap (λ b. (is_same (Word field.0 w) key && nat_eq k start)
    || b) (one_covered field key k (start + 1) words (rest_dropped start field.1 w words e))

pub one_at : (field : FieldValue) (key : KeyValue) (k : ℕ) → k < length field.1 → is_covered field (key ∷ []) k
    ≡ is_at field k key
one_at field key k lt = one_covered field key k 0 field.1 refl
    ∙ at_numbered (λ w. is_same (Word field.0 w) key) field.1 k 0 k (omega arith) lt

module _ (terms : List KeyValue) (strict : IsStrictlySortedBy key_cmp terms) where
  abbrev numbers_of : List ℕ → List (List ℕ) → List (Option ℕ)
  numbers_of name words = map (number_of terms) (map (Word name) words)

  -- a run covers by its numbers the positions that it covers by its keys
  covered_words : (field : FieldValue) (run : List ℕ) (k start : ℕ) (words : List (List ℕ)) → drop start field.1 ≡ words
      → is_covered_from run k start (numbers_of field.0 words)
      ≡ list_any (λ (p : List ℕ × ℕ). covers_from field (map (term_at terms) run) k p.1) (numbered start words)
  covered_words field run k start [] e = refl
  covered_words field run k start (w ∷ words) e =
      let head : (begins_with run (numbers_of field.0 (w ∷ words)) && is_within start (length run) k)
      ≡ covers_from field (map (term_at terms) run) k start =
      ap (λ b. b && is_within start (length run) k) (begins terms strict field.0 run (w ∷ words))
      ∙ ap (λ m. starts_with is_same (map (Word field.0) (w ∷ words)) (map (term_at terms) run)
      && is_within start m k) (sym (length-map run (term_at terms)))
      ∙ sym (from_word field (map (term_at terms) run) k start w words e) in
      let later = covered_words field run k (start + 1) words (rest_dropped start field.1 w words e) in
      (λ i. head i || later i)

  pub run_covers : (field : FieldValue) (numbers : List (Option ℕ)) (run : List ℕ) (k : ℕ)
      → numbers ≡ map (number_of terms) (field_keys field) → is_covered_from run k 0 numbers
      ≡ is_covered field (map (term_at terms) run) k
  run_covers field numbers run k are = ap (is_covered_from run k 0) are ∙ covered_words field run k 0 field.1 refl

-- ---- no keys cover no position

none_covered_in : (field : FieldValue) (k : ℕ) (ps : List (List ℕ × ℕ))
    → list_any (λ (p : List ℕ × ℕ). covers_from field [] k p.1) ps ≡ false
none_covered_in field k [] = refl
none_covered_in field k (p ∷ ps) =
    (λ i. (starts_with is_same (drop p.1 (field_keys field)) [] && within_none p.1 k i)
    || none_covered_in field k ps i) ∙ none (starts_with is_same (drop p.1 (field_keys field)) [])
  where
    none : (a : Bool) → ((a && false) || false) ≡ false
    none true = refl
    none false = refl

pub none_covered : (field : FieldValue) (k : ℕ) → is_covered field [] k ≡ false
none_covered field k = none_covered_in field k (numbered 0 field.1)

pub or_false : (b : Bool) → (b || false) ≡ b
or_false true = refl
or_false false = refl

-- ---- the numbers of one field among those of all

pub field_at : {E : Type 0} (g : E → List (Option ℕ)) (all : List (List (Option ℕ))) (fields : List E) (i : ℕ)
    (d : List (Option ℕ)) (e : E) → all ≡ map g fields → i < length fields → get_or all i d ≡ g (get_or fields i e)
field_at g all fields i d e same lt = ap (λ xs. get_or xs i d) same ∙ get_or-map g fields i e d lt

-- what is read at one place of two lists that are mapped to one
pub both_at : {V E X : Type 0} (h : V → X) (g : E → X) (all : List V) (fields : List E) (i : ℕ) (v : V) (f : E)
    → map h all ≡ map g fields → i < length fields → v ≡ get_or all i v → f ≡ get_or fields i f → h v ≡ g f
both_at h g all fields i v f same lt is_v is_f =
    let long : length all ≡ length fields = sym (length-map all h) ∙ ap length same ∙ length-map fields g in
    ap h is_v ∙ sym (get_or-map h all i v (h v) (omega (arith, long, lt))) ∙ ap (λ xs. get_or xs i (h v)) same
    ∙ get_or-map g fields i f (h v) lt ∙ ap g (sym is_f)

pub some_number : (n : ℕ) → nat_eq n 0 ≡ false → 0 < n
some_number zero e = absurd (true≢false e)
some_number (suc n) e = omega arith
