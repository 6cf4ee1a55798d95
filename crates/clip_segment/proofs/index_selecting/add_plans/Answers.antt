use Rattle.std.proofs.Common.{ℕ, List, [], ◌∷◌, map, refl, ap, ◌∙◌, sym, arith}
use Rattle.clip_plan.specs.Plan.{Mark, decoded, renamed}
use Rattle.clip_segment.proofs.Flagged.{kept_next, left_next, none_next}
use Rattle.clip_segment.proofs.index_selecting.add_plans.Goals as goal
use Rattle.clip_segment.proofs.index_selecting.add_plans.Goals.{then-flag_at+in_ok-push_renamed, else-flag_at}

pub loop-position-preserved : goal.loop-position-preserved
loop-position-preserved c = λ terms.
    let plan = λ (marks : List (Mark ℕ)). decoded terms (renamed c.args.numbers.now marks) in
    let i = c.loop-position.position in
    elim c.if-flag_at.branch [
      | then-flag_at+in_ok-push_renamed w ↦
          kept_next (map plan) (λ marks. plan marks ∷ []) (λ x xs. refl) c.args.kept.now c.args.other.now i []
          (map (decoded terms) c.loop-position.plans) (map (decoded terms) c.if-flag_at.plans) _
          (omega arith) (sym c.flag_at.ensures ∙ w.if-flag_at.true) (ap (map (decoded terms)) w.plans-is
          ∙ w.in_ok-push_renamed.ensures terms) (c.loop-position.invariant terms)
      | else-flag_at w ↦
          left_next (map plan) (λ marks. plan marks ∷ []) (λ x xs. refl) c.args.kept.now c.args.other.now i []
          (map (decoded terms) c.loop-position.plans) (map (decoded terms) c.if-flag_at.plans) _
          (omega arith) (sym c.flag_at.ensures
          ∙ w.if-flag_at.false) (ap (map (decoded terms)) w.plans-is) (c.loop-position.invariant terms)
    ]

pub returns : goal.returns
returns c = λ terms.
    let plan = λ (marks : List (Mark ℕ)). decoded terms (renamed c.args.numbers.now marks) in
    none_next (map plan) (λ marks. plan marks ∷ []) (λ x xs. refl) c.args.kept.now c.args.other.now
    c.loop-position.position (map (decoded terms) c.loop-position.plans) _ refl (omega arith)
    (c.loop-position.invariant terms)
