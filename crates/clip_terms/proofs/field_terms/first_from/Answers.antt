use Rattle.std.proofs.Common.{◌≡◌, ◌<◌, get_or, subst, arith, inl, inr}
use Rattle.std.proofs.lemmas.Bool.{cases_lt}
use Rattle.clip_terms.proofs.field_terms.first_from.Goals as goal

pub loop-place-init : goal.loop-place-init
loop-place-init c = λ n low high. absurd (omega arith)

pub loop-place-preserved : goal.loop-place-preserved
loop-place-preserved c =
    λ n low high.
    elim (cases_lt n c.loop-place.place) [
      | inl lt ↦ c.loop-place.invariant n low lt
      | inr ge ↦
          let same : c.loop-place.place ≡ n = omega arith in
          subst (λ j. get_or c.args.leads.now j 0 < c.args.lead) same c.if-leads-place.true
    ]

pub returns-else-leads-place : goal.returns-else-leads-place
returns-else-leads-place c = c.loop-place.invariant

pub returns-after-loop-place : goal.returns-after-loop-place
returns-after-loop-place c = c.loop-place.invariant
