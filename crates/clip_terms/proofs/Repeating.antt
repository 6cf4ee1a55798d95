-- How the beginnings of a run repeat, and where it can't stand.
use Rattle.std.proofs.Common.{◌≡◌, ℕ, zero, suc, ◌+◌, ◌-◌, ◌/◌, ◌<◌, ◌≤◌, true, false, List, [], ◌∷◌}
use Rattle.std.proofs.Common.{length, drop, set, get_or, Option, Some, None, refl, sym, ap, ◌∙◌, subst, arith, eqb-true}
use Rattle.std.proofs.Common.{get_or-set_same, get_or-set_other, length-set, inl, inr}
use Rattle.std.proofs.lemmas.Bool.{cases_eq, cases_lt, and_parts, and_from, false_from_ne_true, false≢true, true≢false}
use Rattle.std.proofs.lemmas.List.{get_or-drop, drop_all}
use Rattle.clip_terms.specs.declared.repeats.Aligned.{Aligned}
use Rattle.clip_terms.specs.declared.repeats.Span.{Span}
use Rattle.clip_terms.specs.declared.repeats.Repeats.{Repeats}
use Rattle.clip_terms.specs.Steps.Runs.{is_number, begins_with}
use Rattle.clip_terms.specs.Steps.Repeats.{Returns, NoneBelow, IsSpan, IsOutside, AreRepeats, Moves, Agree, NowhereIn}

-- ---- beginnings that return

-- what returns does so as far as is asked
pub returns_less : (run : List ℕ) (d m n : ℕ) → Returns run d m → n ≤ m → Returns run d n
returns_less run d m n r le = record { same = λ j lt. r.same j (omega arith) }

pub none_more : (run : List ℕ) (d m n : ℕ) → NoneBelow run d m → m ≤ n → NoneBelow run d n
none_more run d m n none le e some lt r = none e some lt (returns_less run e n m r le)

-- one number more
pub returns_more : (run : List ℕ) (d n : ℕ) → Returns run d (d + n) → get_or run (d + n) 0 ≡ get_or run n 0
    → Returns run d (d + (n + 1))
returns_more run d n r here =
    record { same = λ j lt. elim (cases_eq j n) [ inl e ↦ at j e | inr ne ↦ r.same j (omega arith) ] }
  where
    at : (j : ℕ) → j ≡ n → get_or run (j + d) 0 ≡ get_or run j 0
    at j e =
        let index : j + d ≡ d + n = omega (arith, e) in
        ap (λ k. get_or run k 0) index ∙ here ∙ ap (λ k. get_or run k 0) (sym e)

-- ---- spans

pub in_span : (run : List ℕ) (span : Span) (n : ℕ) → IsSpan run span → span.from ≤ n → n ≤ span.upto
    → (0 < span.period) × (span.period + span.period ≤ n) × Returns run span.period n × NoneBelow run span.period n
in_span run span n is low high =
    let twice : span.period + span.period ≤ n = omega (arith, is.twice, low) in (
      is.some,
      twice,
      returns_less run span.period span.upto n is.returns high,
      none_more run span.period span.from n is.least low,
    )

-- a length is known with nothing new where none returns after half of it or fewer
pub settled : (r : Repeats) (s n : ℕ) → AreRepeats r → NoneBelow r.run.now s r.known → n < s + s
    → AreRepeats (record r { known = n + 1 })
settled r s n are least short = record {
  long = are.long;
  few = are.few;
  some = omega arith;
  spans = are.spans;
  all = λ m d lt some twice outside returns.
      elim (cases_lt m r.known) [
        | inl before ↦ are.all m d before some twice outside returns
        | inr past ↦ least d some (omega arith) (returns_less r.run.now d m r.known returns past)
      ];
}

-- the lengths up to that of a beginning that returns are known with its span
pub settled_more : (r : Repeats) (s n from : ℕ) → AreRepeats r → r.count < length r.spans → 0 < s
    → Returns r.run.now s n → NoneBelow r.run.now s r.known
    → s + s ≤ from → r.known ≤ from → ((m : ℕ) → r.known ≤ m → s + s ≤ m → from ≤ m)
    → AreRepeats (record r {
      spans = set r.spans r.count (record { period = s; from = from; upto = n });
      count =
          r.count + 1;
      known = n + 1;
    })
settled_more r s n from are room some returns least twice known lower =
    let span : Span = record { period = s; from = from; upto = n } in
    let spans = set r.spans r.count span in
    let old : (k : ℕ) (other : Span) → k < r.count → get_or spans k other ≡ get_or r.spans k other =
    λ k other lt. get_or-set_other r.spans r.count k span other (λ e. omega (arith, e, lt)) in
    let new : (k : ℕ) (other : Span) → k ≡ r.count → get_or spans k other ≡ span =
    λ k other e. ap (λ i. get_or spans i other) e ∙ get_or-set_same r.spans r.count span other room in
    record {
      long = length-set r.spans r.count span ∙ are.long;
      few = omega (arith, room, length-set r.spans r.count span);
      some = omega arith;
      spans = λ k other lt.
          elim (cases_lt k r.count) [
            | inl before ↦ subst (IsSpan r.run.now) (sym (old k other before)) (are.spans k other before)
            | inr past ↦ subst (IsSpan r.run.now) (sym (new k other (omega arith))) (record {
              some = some;
              twice =
                  twice;
              returns = returns;
              least = none_more r.run.now s r.known from least known;
            })
          ];
      all = λ m d lt here half outside back.
          elim (cases_lt m r.known) [
            | inl before ↦ are.all m d before here half
                (λ k other inside. subst (λ (x : Span). IsOutside x m) (old k other inside)
                (outside k other (omega arith))) back
            | inr past ↦
                elim (cases_lt d s) [
                  | inl less ↦ least d here less (returns_less r.run.now d m r.known back past)
                  | inr ge ↦
                      let out : IsOutside span m =
                      subst (λ (x : Span). IsOutside x m) (new r.count span refl)
                      (outside r.count span (omega arith)) in
                      out (lower m past (omega arith)) (omega arith)
                ]
          ];
    }

-- ---- moving on

pub moved_on : (run : List ℕ) (at : Aligned) (n shift : ℕ) → n ≤ at.kept → 0 < shift → Returns run shift n
    → NoneBelow run shift n → Moves run at (record { start = at.start + shift; kept = n - shift })
moved_on run at n shift le some returns least = record {
  shift = shift;
  some = some;
  start = refl;
  within = λ j lt. omega arith;
  same = λ j lt. returns.same j (omega arith);
  least = none_more run shift n at.kept least le;
}

pub moved_past : (run : List ℕ) (at : Aligned) (n : ℕ) → n ≤ at.kept
    → ((d : ℕ) → 0 < d → d + d ≤ n → Returns run d n → ⊥)
    → Moves run at (record { start = at.start + n / 2 + 1; kept = 0 })
moved_past run at n le none = record {
  shift = n / 2 + 1;
  some = omega arith;
  start = omega arith;
  within = λ j lt. absurd (omega arith);
  same = λ j lt. absurd (omega arith);
  least = none_more run (n / 2 + 1) n at.kept (λ d some lt r. none d some (omega arith) r) le;
}

-- what is kept of a run that is laid beside itself returns
pub moved_returns : (run : List ℕ) (at next : Aligned) → Returns run at.start (at.start + at.kept) → Moves run at next
    → Returns run next.start (next.start + next.kept)
moved_returns run at next returns moves = record {
  same = λ j lt.
      let inside : j < next.kept = omega arith in
      let before : j + moves.shift < at.kept = moves.within j inside in
      let index : j + next.start ≡ (j + moves.shift) + at.start = omega (arith, moves.start) in
      ap (λ k. get_or run k 0) index ∙ returns.same (j + moves.shift) (omega arith) ∙ moves.same j inside;
}

-- and none before it does
pub moved_least : (run : List ℕ) (at next : Aligned) (known : ℕ) → Returns run at.start (at.start + at.kept)
    → Moves run at next → at.start + at.kept < known → NoneBelow run at.start known
    → (get_or run (at.start + at.kept) 0 ≡ get_or run at.kept 0 → ⊥) → NoneBelow run next.start known
moved_least run at next known returns moves far least other d some lt back =
    elim (cases_lt d at.start) [
      | inl less ↦ least d some less back
      | inr ge ↦
          elim (cases_eq d at.start) [
            | inl e ↦ other (ap (λ k. get_or run k 0) (here e) ∙ back.same at.kept (omega (arith, e)))
            | inr ne ↦ moves.least (d - at.start) (omega arith) (omega (arith, moves.start)) (record { same = same ge })
          ]
    ]
  where
    here : d ≡ at.start → at.start + at.kept ≡ at.kept + d
    here e = omega (arith, e)

    same : at.start ≤ d → (j : ℕ) → j + (d - at.start) < at.kept → get_or run (j + (d - at.start)) 0 ≡ get_or run j 0
    same ge j lt =
        let index : (j + (d - at.start)) + at.start ≡ j + d = omega arith in
        sym (returns.same (j + (d - at.start)) (omega arith)) ∙ ap (λ k. get_or run k 0) index
        ∙ back.same j (omega arith)

-- ---- a run beside numbers

number_once : (o : Option ℕ) (m n : ℕ) → is_number o m ≡ true → is_number o n ≡ true → m ≡ n
number_once None m n a b = absurd (false≢true a)
number_once (Some k) m n a b = sym (eqb-true k m a) ∙ eqb-true k n b

pub begins_at : (run : List ℕ) (numbers : List (Option ℕ)) → begins_with run numbers ≡ true → (j : ℕ) → j < length run
    → is_number (get_or numbers j None) (get_or run j 0) ≡ true
begins_at [] numbers b j lt = absurd (omega arith)
begins_at (n ∷ run) [] b j lt = absurd (false≢true b)
begins_at (n ∷ run) (m ∷ numbers) b zero lt = (and_parts (is_number m n) _ b).0
begins_at (n ∷ run) (m ∷ numbers) b (suc j) lt = begins_at run numbers (and_parts (is_number m n) _ b).1 j (omega arith)

pub begins_from : (run : List ℕ) (numbers : List (Option ℕ))
    → ((j : ℕ) → j < length run → is_number (get_or numbers j None) (get_or run j 0) ≡ true)
    → begins_with run numbers ≡ true
begins_from [] numbers all = refl
begins_from (n ∷ run) [] all = absurd (false≢true (all 0 (omega arith)))
begins_from (n ∷ run) (m ∷ numbers) all =
    and_from (is_number m n) _ (all 0 (omega arith)) (begins_from run numbers (λ j lt. all (suc j) (omega arith)))

pub begins_there : (run : List ℕ) (numbers : List (Option ℕ)) (p j : ℕ) → begins_with run (drop p numbers) ≡ true
    → j < length run → is_number (get_or numbers (p + j) None) (get_or run j 0) ≡ true
begins_there run numbers p j b lt = ap (λ o. is_number o (get_or run j 0)) (sym (get_or-drop p numbers j None))
    ∙ begins_at run (drop p numbers) b j lt

-- where all of its numbers stand it begins
pub whole_stands : (run : List ℕ) (numbers : List (Option ℕ)) (at : Aligned) → Agree run numbers at
    → at.kept ≡ length run → begins_with run (drop at.start numbers) ≡ true
whole_stands run numbers at agree whole =
    begins_from run (drop at.start numbers)
    (λ j lt. ap (λ o. is_number o (get_or run j 0)) (get_or-drop at.start numbers j None)
    ∙ agree j (omega (arith, whole, lt)))

-- where one of them doesn't stand it doesn't
pub part_stands : (run : List ℕ) (numbers : List (Option ℕ)) (at : Aligned) → at.kept < length run
    → is_number (get_or numbers (at.start + at.kept) None) (get_or run at.kept 0) ≡ false
    → begins_with run (drop at.start numbers) ≡ false
part_stands run numbers at short other =
    false_from_ne_true _ (λ b. true≢false (sym (begins_there run numbers at.start at.kept b short) ∙ other))

pub past_end : (run : List ℕ) (numbers : List (Option ℕ)) (p : ℕ) → 0 < length run → length numbers ≤ p
    → begins_with run (drop p numbers) ≡ false
past_end run numbers p some past = ap (begins_with run) (drop_all p numbers past) ∙ nothing run some
  where
    nothing : (run : List ℕ) → 0 < length run → begins_with run [] ≡ false
    nothing [] some = absurd (omega arith)
    nothing (n ∷ run) some = refl

-- what is kept stands there
pub moved_agrees : (run : List ℕ) (numbers : List (Option ℕ)) (at next : Aligned) → Agree run numbers at
    → Moves run at next → Agree run numbers next
moved_agrees run numbers at next agree moves j lt =
    let index : next.start + j ≡ at.start + (j + moves.shift) = omega (arith, moves.start) in
    ap (λ k. is_number (get_or numbers k None) (get_or run j 0)) index
    ∙ ap (is_number (get_or numbers (at.start + (j + moves.shift)) None)) (sym (moves.same j lt))
    ∙ agree (j + moves.shift) (moves.within j lt)

-- the run begins nowhere that is moved past
pub moved_nowhere : (run : List ℕ) (numbers : List (Option ℕ)) (at next : Aligned) → Agree run numbers at
    → at.kept ≤ length run → Moves run at next → NowhereIn run numbers (at.start + 1) next.start
moved_nowhere run numbers at next agree short moves p past before =
    false_from_ne_true _ (λ b.
    moves.least (p - at.start) (omega arith) (omega (arith, moves.start)) (record {
      same = λ j lt.
          let index : at.start + (j + (p - at.start)) ≡ p + j = omega arith in
          sym (number_once (get_or numbers (p + j) None) _ _ (begins_there run numbers p j b (omega arith))
          (ap (λ k. is_number (get_or numbers k None) (get_or run (j + (p - at.start)) 0)) (sym index)
          ∙ agree (j + (p - at.start)) lt));
    }))

-- no more are kept than before
pub moved_short : (run : List ℕ) (at next : Aligned) → Moves run at next → next.kept ≤ at.kept
moved_short run at next moves = by_count next.kept moves.within
  where
    by_count : (n : ℕ) → ((j : ℕ) → j < n → j + moves.shift < at.kept) → n ≤ at.kept
    by_count zero within = omega arith
    by_count (suc n) within = omega (arith, within n (omega arith))
