-- Runs of keys by the numbers of their terms.
use Rattle.std.proofs.Common.{◌≡◌, ℕ, Bool, true, false, ◌&&◌, ◌||◌, List, [], ◌∷◌, ◌++◌, Option, None, unwrap_or}
use Rattle.std.proofs.Common.{nat_eq, map, flat_map, length, refl, sym, ap, ◌∙◌, inl, inr}
use Rattle.std.specs.FinMap as finite
use Rattle.std.specs.Cmp.{eq_by_cmp_equiv}
use Rattle.std.specs.List.{list_any, list_all, starts_with, slice_get}
use Rattle.std.specs.List.Sorted.{IsStrictlySortedBy}
use Rattle.std.proofs.lemmas.Bool.{or_cases, or_left, or_right, and_parts, and_from, false≢true, true≢false}
use Rattle.std.proofs.lemmas.Bool.{false_from_ne_true}
use Rattle.std.proofs.lemmas.List.Folds.{list_any-append, list_all-map}
use Rattle.clip_meaning.specs.Article.{Fields}
use Rattle.clip_extract.specs.Keys.{KeyValue, Any, Word, key_cmp, is_same}
use Rattle.clip_extract.specs.Covering.{field_keys, front_keys}
use Rattle.clip_extract.proofs.Covers.{all_keys}
use Rattle.clip_extract.proofs.Order.{key_cmp_total, same_itself, among_in_order}
use Rattle.clip_terms.specs.Terms.{term_at, number_of}
use Rattle.clip_terms.specs.Reading.{has_key, has_run, stands_in, is_run}
use Rattle.clip_terms.specs.Steps.Runs.{begins_with, stands_among}
use Rattle.clip_terms.proofs.NumberedKeys.{word_numbered}

abbrev Entry : Type 0
Entry = List ℕ × List (List ℕ)

abbrev numbers_of : List KeyValue → Entry → List (Option ℕ)
numbers_of terms field = map (number_of terms) (field_keys field)

module _ (terms : List KeyValue) (strict : IsStrictlySortedBy key_cmp terms) where
  pub begins : (name : List ℕ) (run : List ℕ) (words : List (List ℕ))
      → begins_with run (map (number_of terms) (map (Word name) words))
      ≡ starts_with is_same (map (Word name) words) (map (term_at terms) run)
  begins name [] words = refl
  begins name (n ∷ run) [] = refl
  begins name (n ∷ run) (w ∷ words) =
      let head = word_numbered terms name w n strict
      ∙ (eq_by_cmp_equiv key_cmp_total).symm (Word name w) (term_at terms n) in
      λ i. head i && begins name run words i

  stands : (name : List ℕ) (run : List ℕ) (words : List (List ℕ))
      → stands_among run (map (number_of terms) (map (Word name) words))
      ≡ stands_in (map (term_at terms) run) (map (Word name) words)
  stands name run [] = refl
  stands name run (w ∷ words) = λ i. begins name run (w ∷ words) i || stands name run words i

  -- the run stands in one of the fields by its numbers where it does by its keys
  pub stands_any : (run : List ℕ) (fields : List Entry) → list_any (stands_among run) (map (numbers_of terms) fields)
      ≡ list_any (λ field. stands_in (map (term_at terms) run) (field_keys field)) fields
  stands_any run [] = refl
  stands_any run (f ∷ fields) = λ i. stands f.0 run f.1 i || stands_any run fields i

-- ---- a run that stands in a field has its keys among the article's

module _ (among : KeyValue → Bool) where
  begun : (keys run : List KeyValue) → ((q : KeyValue) → list_any (is_same q) keys ≡ true → among q ≡ true)
      → starts_with is_same keys run ≡ true → list_all among run ≡ true
  begun keys [] holds h = refl
  begun [] (r ∷ run) holds h = absurd (false≢true h)
  begun (k ∷ keys) (r ∷ run) holds h =
      let parts = and_parts (is_same r k) _ h in
      and_from (among r) _ (holds r (or_left (is_same r k) _ parts.0))
      (begun keys run (λ q is. holds q (or_right (is_same q k) _ is)) parts.1)

  standing : (run keys : List KeyValue) → ((q : KeyValue) → list_any (is_same q) keys ≡ true → among q ≡ true)
      → stands_in run keys ≡ true → list_all among run ≡ true
  standing run [] holds h = absurd (false≢true h)
  standing run (k ∷ keys) holds h =
      elim (or_cases (starts_with is_same (k ∷ keys) run) (stands_in run keys) h) [
        | inl here ↦ begun (k ∷ keys) run holds here
        | inr later ↦ standing run keys (λ q is. holds q (or_right (is_same q k) _ is)) later
      ]

  standing_any : (run : List KeyValue) (fields : List Entry)
      → ((q : KeyValue) → list_any (is_same q) (flat_map field_keys fields) ≡ true → among q ≡ true)
      → list_any (λ field. stands_in run (field_keys field)) fields ≡ true → list_all among run ≡ true
  standing_any run [] holds h = absurd (false≢true h)
  standing_any run (f ∷ fields) holds h =
      let whole = λ (q : KeyValue). list_any-append (is_same q) (field_keys f) (flat_map field_keys fields) in
      elim (or_cases (stands_in run (field_keys f)) _ h) [
        | inl here ↦ standing run (field_keys f)
            (λ q is. holds q (whole q ∙ or_left (list_any (is_same q) (field_keys f)) _ is)) here
        | inr later ↦ standing_any run fields
            (λ q is. holds q (whole q ∙ or_right (list_any (is_same q) (field_keys f)) _ is)) later
      ]

-- ---- what an article has

-- every article has the key Any
pub has_any : (fields : Fields) → has_key fields Any ≡ true
has_any fields = among_in_order (all_keys fields) Any
    ∙ or_left (is_same Any Any)
    (list_any (is_same Any) (flat_map field_keys (finite.entries fields)
    ++ flat_map front_keys (finite.entries fields))) (same_itself Any)

-- a run some key of which the article lacks stands nowhere
pub lacks : (fields : Fields) (run : List KeyValue) → list_all (has_key fields) run ≡ false → has_run fields run ≡ false
lacks fields run h =
    false_from_ne_true (has_run fields run)
    (λ has. let parts = and_parts (is_run run) _ has in
    let all = standing_any (has_key fields) run (finite.entries fields)
    (λ q is. among_in_order (all_keys fields) q
    ∙ or_right (is_same q Any) _ (list_any-append (is_same q) (flat_map field_keys (finite.entries fields)) _
    ∙ or_left (list_any (is_same q) (flat_map field_keys (finite.entries fields))) _ is)) parts.1 in
    false≢true (sym h ∙ all))

-- past the last term stands the key that every article has
pub past_terms : (fields : Fields) (terms : List KeyValue) (n : ℕ) → slice_get terms n ≡ None
    → true ≡ has_key fields (term_at terms n)
past_terms fields terms n none =
    sym (ap (λ (o : Option KeyValue). has_key fields (unwrap_or o Any)) none ∙ has_any fields)

-- the same by numbers
pub lacks_numbers : (fields : Fields) (terms : List KeyValue) (run : List ℕ)
    → list_all (λ n. has_key fields (term_at terms n)) run ≡ false → has_run fields (map (term_at terms) run) ≡ false
lacks_numbers fields terms run h =
    lacks fields (map (term_at terms) run) (list_all-map (has_key fields) (term_at terms) run ∙ h)

-- a run that is not empty stands where its numbers do
pub run_stands : (fields : Fields) (terms : List KeyValue) (strict : IsStrictlySortedBy key_cmp terms)
    (numbers : List ℕ) → nat_eq (length numbers) 0 ≡ false
    → list_any (stands_among numbers) (map (λ field. map (number_of terms) (field_keys field)) (finite.entries fields))
    ≡ has_run fields (map (term_at terms) numbers)
run_stands fields terms strict [] some = absurd (true≢false some)
run_stands fields terms strict (n ∷ numbers) some = stands_any terms strict (n ∷ numbers) (finite.entries fields)
