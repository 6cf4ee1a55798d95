use Rattle.std.proofs.Common.{[], flat_map, refl, ap, ◌∙◌, sym, arith}
use Rattle.clip_plan.specs.Plan.{names}
use Rattle.clip_segment.proofs.Flagged.{kept_next, left_next, none_next}
use Rattle.clip_segment.proofs.kept_terms.kept_numbers.Goals as goal
use Rattle.clip_segment.proofs.kept_terms.kept_numbers.Goals.{then-flag_at+in_ok-add_numbers, else-flag_at}

pub loop-position-preserved : goal.loop-position-preserved
loop-position-preserved c =
    let i = c.loop-position.position in
    elim c.if-flag_at.branch [
      | then-flag_at+in_ok-add_numbers w ↦
          kept_next (flat_map names) names (λ x xs. refl) c.args.kept.now c.args.plans.now i []
          c.loop-position.numbers.items c.if-flag_at.numbers.items _
          (omega arith) (sym c.flag_at.ensures ∙ w.if-flag_at.true) (ap (λ v. v.items) w.numbers-is
          ∙ w.in_ok-add_numbers.ensures) c.loop-position.invariant
      | else-flag_at w ↦
          left_next (flat_map names) names (λ x xs. refl) c.args.kept.now c.args.plans.now i []
          c.loop-position.numbers.items c.if-flag_at.numbers.items _
          (omega arith) (sym c.flag_at.ensures
          ∙ w.if-flag_at.false) (ap (λ v. v.items) w.numbers-is) c.loop-position.invariant
    ]

pub returns : goal.returns
returns c = none_next (flat_map names) names (λ x xs. refl) c.args.kept.now c.args.plans.now c.loop-position.position
    c.loop-position.numbers.items _ refl (omega arith) c.loop-position.invariant
