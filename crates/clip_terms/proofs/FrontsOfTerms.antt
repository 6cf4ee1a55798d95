-- The fronts of a field among the terms, each asked for among the words of an article's field.
use Rattle.std.proofs.Common.{◌≡◌, ℕ, ◌+◌, ◌<◌, ◌≤◌, Bool, true, false, ◌||◌, nat_eq, List, [], ◌∷◌, ◌++◌, map}
use Rattle.std.proofs.Common.{flat_map, length, get_or, Fits, w32, refl, sym, ap, ◌∙◌, arith, eq-eqb, ne_eqb, inl, inr}
use Rattle.std.specs.List.{list_any}
use Rattle.std.proofs.lemmas.Bool.{cases_lt, cases_eq, or_right, false≢true, false_from_ne_true}
use Rattle.std.proofs.lemmas.List.Elements.{All-nil, All-cons, All-same, All-append}
use Rattle.std.proofs.lemmas.List.Folds.{list_any-append}
use Rattle.std.proofs.lemmas.Option.{unwrap_or-slice_get}
use Rattle.clip_grammar.proofs.Booleans.{either}
use Rattle.clip_extract.specs.Keys.{KeyValue, Any, Word, Front, is_same, text_of}
use Rattle.clip_extract.specs.Fronts.{fronts}
use Rattle.clip_extract.specs.Covering.{front_keys}
use Rattle.clip_extract.proofs.Order.{same_key}
use Rattle.clip_terms.specs.Terms.{term_at}
use Rattle.clip_terms.specs.Steps.Leads.{heading, IsPart}
use Rattle.clip_terms.specs.Steps.Fronts.{AddsNumbersOf, AddsNumbersBelow}
use Rattle.clip_terms.specs.declared.terms.TheConstants.{MOST_TERMS}
use Rattle.clip_terms.proofs.ReadingOf.{or_none}

-- a place among the terms is one among the keys, and fits 32 bits
pub within_keys : (n end terms keys : ℕ) → n < end → end ≤ terms → terms ≡ keys → n < keys
within_keys n end terms keys lt upto same = omega arith

pub fits_number : (n keys : ℕ) → n < keys → keys ≤ MOST_TERMS → Fits w32 n
fits_number n keys lt few = omega arith

-- a key that is among those of fronts is one
among_fronts : (k : KeyValue) (field : List ℕ) (texts : List (List ℕ)) → list_any (is_same k) (map (Front field) texts)
    ≡ true → (text : List ℕ) × (k ≡ Front field text)
among_fronts k field [] h = absurd (false≢true h)
among_fronts k field (text ∷ texts) h =
    either (is_same k (Front field text)) (list_any (is_same k) (map (Front field) texts)) h
    (λ e. (text, same_key k (Front field text) e))
    (λ e. among_fronts k field texts e)

under_fronts : (k : KeyValue) (field : List ℕ) → heading k ≡ heading (Front field []) → k ≡ Front field (text_of k)
under_fronts Any field e = absurd (let rank : 0 ≡ 2 = ap (λ (h : ℕ × List ℕ). h.0) e in omega arith)
under_fronts (Word f w) field e = absurd (let rank : 1 ≡ 2 = ap (λ (h : ℕ × List ℕ). h.0) e in omega arith)
under_fronts (Front f w) field e = ap (λ (h : ℕ × List ℕ). Front h.1 w) e

-- a number more
one_more : (n i : ℕ) (now new : List ℕ) → new ≡ now ++ i ∷ []
    → list_any (nat_eq n) new ≡ (list_any (nat_eq n) now || nat_eq n i)
one_more n i now new added = ap (list_any (nat_eq n)) added ∙ list_any-append (nat_eq n) now (i ∷ [])
    ∙ ap (λ b. list_any (nat_eq n) now || b) (or_none (nat_eq n i))

another : (n i : ℕ) (now new : List ℕ) → new ≡ now ++ i ∷ [] → (n ≡ i → ⊥)
    → list_any (nat_eq n) new ≡ list_any (nat_eq n) now
another n i now new added differ =
    one_more n i now new added ∙ ap (λ b. list_any (nat_eq n) now || b) (ne_eqb n i differ)
    ∙ or_none (list_any (nat_eq n) now)

module _ (terms : List KeyValue) (field : List ℕ × List (List ℕ)) (start end : ℕ)
    (part : IsPart terms (heading (Front field.0 [])) start end) where
  abbrev has : ℕ → Bool
  has n = list_any (is_same (term_at terms n)) (front_keys field)

  at : (n : ℕ) → term_at terms n ≡ get_or terms n Any
  at n = unwrap_or-slice_get terms n Any

  -- other terms are no fronts of the field
  outside : (n : ℕ) → n < length terms → ((start ≤ n) × (n < end) → ⊥) → has n ≡ false
  outside n lt away =
      false_from_ne_true (has n)
      (λ h. let front = among_fronts (term_at terms n) field.0 (flat_map fronts field.1) h in
      away (part.all n Any lt (ap heading (sym (at n) ∙ front.1))))

  -- a term of the part is the front of its text
  inside : (n : ℕ) (k : KeyValue) → start ≤ n → n < end → ((d : KeyValue) → get_or terms n d ≡ k) → (b : Bool)
      → b ≡ list_any (is_same (Front field.0 (text_of k))) (front_keys field) → has n ≡ b
  inside n k low high is b found =
      ap (λ t. list_any (is_same t) (front_keys field)) (at n ∙ is Any
      ∙ under_fronts k field.0 (ap heading (sym (is Any)) ∙ part.just n Any low high)) ∙ sym found

  -- ---- front by front

  pub begun : (old : List ℕ) → AddsNumbersBelow terms (front_keys field) start old old
  begun old = record {
    within = λ all. all;
    below = λ n lt long. sym
        (ap (λ b. list_any (nat_eq n) old || b) (outside n long (λ there. let low = there.0 in omega arith))
        ∙ or_none (list_any (nat_eq n) old));
    others = λ n le. refl;
  }

  pub taken : (old now new : List ℕ) (i : ℕ) (k : KeyValue) → start ≤ i → i < end
      → ((d : KeyValue) → get_or terms i d ≡ k)
      → true ≡ list_any (is_same (Front field.0 (text_of k))) (front_keys field)
      → new ≡ now ++ i ∷ [] → AddsNumbersBelow terms (front_keys field) i old now
      → AddsNumbersBelow terms (front_keys field) (i + 1) old new
  taken old now new i k low high is found added before = record {
    within = λ all.
        let fits : i < length terms = let within = part.within in omega arith in
        All-same (λ n. n < length terms) _ _ added
        (All-append (λ n. n < length terms) now (i ∷ []) (before.within all)
        (All-cons (λ n. n < length terms) i [] fits (All-nil (λ n. n < length terms))));
    below = λ n lt long.
        elim (cases_eq n i) [
          | inl e ↦
              one_more n i now new added ∙ or_right (list_any (nat_eq n) now) (nat_eq n i) (eq-eqb n i e)
              ∙ sym (ap (λ b. list_any (nat_eq n) old || b) (ap has e ∙ inside i k low high is true found)
              ∙ or_right (list_any (nat_eq n) old) true refl)
          | inr ne ↦ another n i now new added ne ∙ before.below n (omega (arith, ne)) long
        ];
    others = λ n le. another n i now new added (λ e. omega arith) ∙ before.others n (omega arith);
  }

  pub passed : (old now : List ℕ) (i : ℕ) (k : KeyValue) → start ≤ i → i < end
      → ((d : KeyValue) → get_or terms i d ≡ k)
      → false ≡ list_any (is_same (Front field.0 (text_of k))) (front_keys field)
      → AddsNumbersBelow terms (front_keys field) i old now → AddsNumbersBelow terms (front_keys field) (i + 1) old now
  passed old now i k low high is found before = record {
    within = before.within;
    below = λ n lt long.
        elim (cases_eq n i) [
          | inl e ↦
              before.others n (omega arith)
              ∙ sym (ap (λ b. list_any (nat_eq n) old || b) (ap has e ∙ inside i k low high is false found)
              ∙ or_none (list_any (nat_eq n) old))
          | inr ne ↦ before.below n (omega (arith, ne)) long
        ];
    others = λ n le. before.others n (omega arith);
  }

  pub ended : (old new : List ℕ) (i : ℕ) → end ≤ i → i ≤ end → AddsNumbersBelow terms (front_keys field) i old new
      → AddsNumbersOf terms (front_keys field) old new
  ended old new i low high before = record {
    within = before.within;
    among = λ n long.
        elim (cases_lt n i) [
          | inl lt ↦ before.below n lt long
          | inr ge ↦
              before.others n ge
              ∙ sym (ap (λ b. list_any (nat_eq n) old || b) (outside n long (λ there. let high = there.1 in
              omega arith)) ∙ or_none (list_any (nat_eq n) old))
        ];
  }
