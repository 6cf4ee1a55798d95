use Rattle.std.proofs.Common.{◌≡◌, ◌+◌, length, take}
use Rattle.std.specs.Arc.{arc_value}
use Rattle.std.specs.List.{sum_by}
use Rattle.clip_merge.proofs.payment.have_at_most.Given as goal

abbrev pub invariant-loop-segment : goal.invariant-loop-segment
invariant-loop-segment g l =
    sum_by (λ segment. length (arc_value segment)) (take l.segment-index l.segments) + l.room ≡ l.most
