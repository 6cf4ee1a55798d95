-- Flags that are raised where a run stands.
use Rattle.std.proofs.Common.{◌≡◌, ℕ, ◌+◌, ◌-◌, ◌<◌, ◌≤◌, true, false, nat_le, nat_lt, List}
use Rattle.std.proofs.Common.{length, drop, get_or, Option, Some, None, MatchOption, refl, sym, ap, ◌∙◌, arith}
use Rattle.std.proofs.Common.{max, inl, inr}
use Rattle.std.proofs.lemmas.Bool.{cases_eq, cases_lt, or_cases, or_left, or_right, and_parts, and_from, le-leb}
use Rattle.std.proofs.lemmas.Bool.{leb-true, lt-ltb, ltb-true, false≢true}
use Rattle.clip_grammar.proofs.Booleans.{same_answer}
use Rattle.clip_meaning.specs.Hits.{is_within}
use Rattle.clip_meaning.specs.Steps.Marks.{is_up, AreRaised}
use Rattle.clip_terms.specs.Steps.Runs.{begins_with}
use Rattle.clip_terms.specs.Steps.FieldNumbers.{is_covered_from}
use Rattle.clip_terms.specs.declared.repeats.Aligned.{Aligned}
use Rattle.clip_terms.specs.Steps.Repeats.{IsNext, NowhereIn, AreMarked}
use Rattle.clip_terms.proofs.RunPlaces.{covered_at, covered_where}

module _ (run : List ℕ) (numbers : List (Option ℕ)) where
  pub marked_none : (flags : List ℕ) → AreMarked run numbers flags flags 0 0
  marked_none flags = record {
    long = refl;
    kept = λ k lt up. up;
    just = λ k lt up. or_left (is_up (get_or flags k 0)) _ up;
    done = λ k p lt none b within. absurd (omega arith);
    beyond = λ k lt low high. absurd (omega arith);
    bound = omega arith;
  }

  -- where the run stands once more its flags are raised that aren't up
  pub marked_more : (old cur new : List ℕ) (start end found from next : ℕ) → 0 < length run
      → AreMarked run numbers old cur start end → start ≤ found → NowhereIn run numbers start found
      → begins_with run (drop found numbers) ≡ true
      → found < next → NowhereIn run numbers (found + 1) next → from ≡ max found end → length new ≡ length cur
      → AreRaised cur new (is_within from ((found + length run) - from))
      → AreMarked run numbers old new next (found + length run)
  marked_more old cur new start end found from next some are later nowhere here past between first long raised =
      record {
        long = long ∙ are.long;
        kept = λ k lt up. still k lt (are.kept k lt up);
        just = λ k lt up.
            elim (or_cases (is_up (get_or cur k 0)) _ (sym (raised k (inside k lt)) ∙ up)) [
              | inl before ↦ are.just k lt before
              | inr within ↦ or_right (is_up (get_or old k 0)) _ (covered k within)
            ];
        done = λ k p lt before b within.
            let ends = and_parts (nat_le p k) (nat_lt k (p + length run)) within in
            elim (cases_lt p start) [
              | inl less ↦ still k lt (are.done k p lt less b within)
              | inr ge ↦
                  elim (cases_lt p found) [
                    | inl less ↦ absurd (false≢true (sym (nowhere p ge less) ∙ b))
                    | inr far ↦
                        elim (cases_eq p found) [
                          | inl e ↦ up_at k lt (omega (arith, e, leb-true p k ends.0))
                              (omega (arith, e, ltb-true k (p + length run) ends.1))
                          | inr ne ↦ absurd (false≢true (sym (between p (omega arith) before) ∙ b))
                        ]
                  ]
            ];
        beyond = λ k lt low high. up_at k lt (omega arith) high;
        bound = omega arith;
      }
    where
      inside : (k : ℕ) → k < length old → k < length cur
      inside k lt = omega (arith, lt, are.long)

      still : (k : ℕ) → k < length old → is_up (get_or cur k 0) ≡ true → is_up (get_or new k 0) ≡ true
      still k lt up = raised k (inside k lt) ∙ or_left (is_up (get_or cur k 0)) _ up

      up_at : (k : ℕ) → k < length old → found ≤ k → k < found + length run → is_up (get_or new k 0) ≡ true
      up_at k lt low high =
          elim (cases_lt k from) [
            | inl less ↦ still k lt (are.beyond k lt (omega (arith, low, later)) (omega (arith, less, first, low)))
            | inr ge ↦
                raised k (inside k lt)
                ∙ or_right (is_up (get_or cur k 0)) _
                (and_from (nat_le from k) _ (le-leb from k ge)
                (lt-ltb k (from + ((found + length run) - from)) (omega (arith, high, ge))))
          ]

      covered : (k : ℕ) → is_within from ((found + length run) - from) k ≡ true → is_covered_from run k 0 numbers ≡ true
      covered k within =
          let ends = and_parts (nat_le from k) (nat_lt k (from + ((found + length run) - from))) within in
          let low : from ≤ k = leb-true from k ends.0 in
          let high : k < from + ((found + length run) - from) = ltb-true k _ ends.1 in
          covered_at run k 0 found numbers some here
          (and_from (nat_le (0 + found) k) _ (le-leb (0 + found) k (omega (arith, low, first)))
          (lt-ltb k ((0 + found) + length run) (omega (arith, high, low))))

  -- where it stands nowhere any more all are up that it covers
  pub marked_all : (old new : List ℕ) (start end : ℕ) → AreMarked run numbers old new start end
      → ((p : ℕ) → start ≤ p → begins_with run (drop p numbers) ≡ false)
      → AreRaised old new (λ k. is_covered_from run k 0 numbers)
  marked_all old new start end are nowhere k lt =
      same_answer _ _ (are.just k lt)
      (λ t.
      elim (or_cases (is_up (get_or old k 0)) _ t) [
        | inl up ↦ are.kept k lt up
        | inr covered ↦
            let there = covered_where run k 0 numbers covered in
            let from : 0 + there.0 ≡ there.0 = omega arith in
            elim (cases_lt there.0 start) [
              | inl less ↦ are.done k there.0 lt less there.1 (ap (λ s. is_within s (length run) k) (sym from)
                  ∙ there.2)
              | inr ge ↦ absurd (false≢true (sym (nowhere there.0 ge) ∙ there.1))
            ]
      ])

  none_found : (found : Aligned) → Some found ≡ None → ⊥
  none_found found e = cc

  pub marked_end : (old new : List ℕ) (at : Aligned) (end : ℕ) (found : Option Aligned)
      → AreMarked run numbers old new at.start end → found ≡ None
      → MatchOption found ((p : ℕ) → at.start ≤ p → begins_with run (drop p numbers) ≡ false) (IsNext run numbers at)
      → AreRaised old new (λ k. is_covered_from run k 0 numbers)
  marked_end old new at end None are is nowhere = marked_all old new at.start end are nowhere
  marked_end old new at end (Some found) are is next = absurd (none_found found is)
