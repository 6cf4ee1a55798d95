-- Where a run of numbers stands: at a spot of each of its numbers.
use Rattle.std.proofs.Common.{◌≡◌, ℕ, zero, suc, ◌+◌, ◌-◌, ◌<◌, ◌≤◌, Bool, true, false, cond, ◌&&◌, nat_le, List, []}
use Rattle.std.proofs.Common.{◌∷◌, length, drop, get_or, Option, Some, None, MatchOption, is_some}
use Rattle.std.proofs.Common.{refl, sym, ap, ◌∙◌, arith, eqb-true, inl, inr}
use Rattle.std.specs.List.{list_any}
use Rattle.std.proofs.lemmas.Bool.{or_cases, or_left, or_right, and_parts, and_from, le-leb}
use Rattle.std.proofs.lemmas.Bool.{false_from_ne_true, false≢true, true≢false}
use Rattle.std.proofs.lemmas.Option.{unwrap_or-slice_get}
use Rattle.clip_grammar.proofs.Booleans.{same_answer}
use Rattle.clip_meaning.specs.Hits.{is_within}
use Rattle.clip_meaning.specs.Steps.Marks.{is_within_run}
use Rattle.clip_terms.specs.declared.field_numbers.Anchor.{Anchor}
use Rattle.clip_terms.specs.declared.field_numbers.Spot.{Spot}
use Rattle.clip_terms.specs.declared.repeats.Aligned.{Aligned}
use Rattle.clip_terms.specs.Steps.Runs.{is_number, begins_with, stands_among}
use Rattle.clip_terms.specs.Steps.FieldNumbers.{IsAnchor, begins_before, covers_before, is_covered_from, start_before}
use Rattle.clip_terms.proofs.Repeating.{begins_there, past_end, whole_stands}
use Rattle.clip_terms.specs.Steps.Repeats.{IsNext}

-- ---- where a run stands

pub stands_at : (run : List ℕ) (numbers : List (Option ℕ)) (p : ℕ) → 0 < length run → begins_with run (drop p numbers)
    ≡ true → stands_among run numbers ≡ true
stands_at run [] p some b = absurd (false≢true (sym (past_end run [] p some (omega arith)) ∙ b))
stands_at run (m ∷ numbers) zero some b = or_left (begins_with run (m ∷ numbers)) _ b
stands_at run (m ∷ numbers) (suc p) some b = or_right (begins_with run (m ∷ numbers)) _ (stands_at run numbers p some b)

abbrev Stands : List ℕ → List (Option ℕ) → Type 0
Stands run numbers = (p : ℕ) × (begins_with run (drop p numbers) ≡ true)

pub stands_where : (run : List ℕ) (numbers : List (Option ℕ)) → stands_among run numbers ≡ true → Stands run numbers
stands_where run [] s = absurd (false≢true s)
stands_where run (m ∷ numbers) s =
    elim (or_cases (begins_with run (m ∷ numbers)) _ s) [
      | inl here ↦ (0, here)
      | inr later ↦ let there = stands_where run numbers later in (suc there.0, there.1)
    ]

pub covered_at : (run : List ℕ) (k start p : ℕ) (numbers : List (Option ℕ)) → 0 < length run
    → begins_with run (drop p numbers) ≡ true → is_within (start + p) (length run) k ≡ true
    → is_covered_from run k start numbers ≡ true
covered_at run k start p [] some b within = absurd (false≢true (sym (past_end run [] p some (omega arith)) ∙ b))
covered_at run k start zero (m ∷ numbers) some b within =
    let same : start + 0 ≡ start = omega arith in
    or_left (begins_with run (m ∷ numbers) && is_within start (length run) k) _
    (and_from (begins_with run (m ∷ numbers)) _ b (ap (λ s. is_within s (length run) k) (sym same) ∙ within))
covered_at run k start (suc p) (m ∷ numbers) some b within =
    let same : (start + 1) + p ≡ start + suc p = omega arith in
    or_right (begins_with run (m ∷ numbers) && is_within start (length run) k) _
    (covered_at run k (start + 1) p numbers some b (ap (λ s. is_within s (length run) k) same ∙ within))

abbrev Covers : List ℕ → (k start : ℕ) → List (Option ℕ) → Type 0
Covers run k start numbers =
    (p : ℕ) × (begins_with run (drop p numbers) ≡ true) × (is_within (start + p) (length run) k ≡ true)

pub covered_where : (run : List ℕ) (k start : ℕ) (numbers : List (Option ℕ)) → is_covered_from run k start numbers
    ≡ true → Covers run k start numbers
covered_where run k start [] c = absurd (false≢true c)
covered_where run k start (m ∷ numbers) c =
    elim (or_cases (begins_with run (m ∷ numbers) && is_within start (length run) k) _ c) [
      | inl here ↦
          let parts = and_parts (begins_with run (m ∷ numbers)) _ here in
          let same : start + 0 ≡ start = omega arith in
          (0, parts.0, ap (λ s. is_within s (length run) k) same ∙ parts.1)
      | inr later ↦
          let there = covered_where run k (start + 1) numbers later in
          let same : start + suc there.0 ≡ (start + 1) + there.0 = omega arith in
          (suc there.0, there.1, ap (λ s. is_within s (length run) k) same ∙ there.2)
    ]

-- ---- at an anchor's spots

numbered : (o : Option ℕ) (n : ℕ) → is_number o n ≡ true → o ≡ Some n
numbered None n e = absurd (false≢true e)
numbered (Some m) n e = ap Some (eqb-true m n e)

abbrev Passes : (Spot → Bool) → Type 0
Passes p = (s : Spot) × (p s ≡ true)

some_passes : (p : Spot → Bool) (spots : List Spot) → list_any p spots ≡ true → Passes p
some_passes p [] any = absurd (false≢true any)
some_passes p (s ∷ spots) any =
    elim (or_cases (p s) _ any) [
      | inl here ↦ (s, here)
      | inr later ↦ some_passes p spots later
    ]

module _ (run : List ℕ) (numbers : List (Option ℕ)) (anchor : Anchor) (is : IsAnchor numbers run anchor) where
  some : 0 < length run
  some = omega (arith, is.within)

  back : (p : ℕ) → (p + anchor.place) - anchor.place ≡ p
  back p = omega arith

  -- where the run stands the spot of its number at the place is among the anchor's
  at_spot : (test : Spot → Bool) (p : ℕ) → begins_with run (drop p numbers) ≡ true
      → test (record { number = get_or run anchor.place 0; position = p + anchor.place }) ≡ true
      → list_any test anchor.spots.now ≡ true
  at_spot test p b = is.spots.each (p + anchor.place) (unwrap_or-slice_get numbers (p + anchor.place) None
      ∙ numbered (get_or numbers (p + anchor.place) None) (get_or run anchor.place 0)
      (begins_there run numbers p anchor.place b is.within)) test

  before : (p : ℕ) → begins_with run (drop p numbers) ≡ true
      → begins_before run numbers anchor.place (record {
        number = get_or run anchor.place 0;
        position =
            p + anchor.place;
      }) ≡ true
  before p b = and_from (nat_le anchor.place (p + anchor.place)) _
      (le-leb anchor.place (p + anchor.place) (omega arith)) (ap (λ q. begins_with run (drop q numbers)) (back p) ∙ b)

  pub anchored_stands : list_any (begins_before run numbers anchor.place) anchor.spots.now ≡ stands_among run numbers
  anchored_stands =
      same_answer _ _
      (λ t.
      let found = some_passes (begins_before run numbers anchor.place) anchor.spots.now t in
      stands_at run numbers (found.0.position - anchor.place) some
      (and_parts (nat_le anchor.place found.0.position) _ found.1).1)
      (λ t. let there = stands_where run numbers t in
      at_spot (begins_before run numbers anchor.place) there.0 there.1 (before there.0 there.1))

  pub anchored_covers : (k : ℕ) → list_any (covers_before run numbers anchor.place k) anchor.spots.now
      ≡ is_covered_from run k 0 numbers
  anchored_covers k =
      same_answer _ _
      (λ t.
      let found = some_passes (covers_before run numbers anchor.place k) anchor.spots.now t in
      let parts = and_parts (begins_before run numbers anchor.place found.0) _ found.1 in
      let from : 0 + (found.0.position - anchor.place) ≡ found.0.position - anchor.place = omega arith in
      covered_at run k 0 (found.0.position - anchor.place) numbers some
      (and_parts (nat_le anchor.place found.0.position) _ parts.0).1 (ap (λ s. is_within s (length run) k) from
      ∙ parts.1))
      (λ t.
      let there = covered_where run k 0 numbers t in
      let from : (there.0 + anchor.place) - anchor.place ≡ 0 + there.0 = omega arith in
      at_spot (covers_before run numbers anchor.place k) there.0 there.1
      (and_from (begins_before run numbers anchor.place (record {
        number = get_or run anchor.place 0;
        position =
            there.0 + anchor.place;
      })) _ (before there.0 there.1) (ap (λ s. is_within s (length run) k) from ∙ there.2)))

-- a run covers a position from where it starts, if it stands about the spot
pub covers_from_start : (run : List ℕ) (numbers : List (Option ℕ)) (place k : ℕ) (s : Spot)
    → is_within_run (start_before run numbers place s) (length run) k ≡ covers_before run numbers place k s
covers_from_start run numbers place k s = by_test (begins_before run numbers place s)
  where
    by_test : (b : Bool) → is_within_run (cond b (Some (s.position - place)) None) (length run) k
        ≡ (b && is_within (s.position - place) (length run) k)
    by_test true = refl
    by_test false = refl

-- ---- by a search from the start on

pub next_stands : (run : List ℕ) (numbers : List (Option ℕ)) (at : Aligned) (found : Option Aligned) → at.start ≡ 0
    → 0 < length run
    → MatchOption found ((p : ℕ) → at.start ≤ p → begins_with run (drop p numbers) ≡ false) (IsNext run numbers at)
    → is_some found ≡ stands_among run numbers
next_stands run numbers at None first some nowhere =
    sym (false_from_ne_true _ (λ s. let there = stands_where run numbers s in
    true≢false (sym there.1 ∙ nowhere there.0 (omega (arith, first)))))
next_stands run numbers at (Some found) first some next =
    sym (stands_at run numbers found.start some (whole_stands run numbers found next.agree next.whole))
