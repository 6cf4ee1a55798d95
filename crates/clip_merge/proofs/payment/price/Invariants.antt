use Rattle.std.proofs.Common.{◌≡◌, length, min, take}
use Rattle.std.specs.Arc.{arc_value}
use Rattle.std.specs.List.{sum_by}
use Rattle.clip_merge.specs.Price.{price_of}
use Rattle.clip_merge.proofs.payment.price.Given as goal

abbrev pub invariant-loop-segment : goal.invariant-loop-segment
invariant-loop-segment g l = l.price ≡ min
    (sum_by (λ segment. price_of (length (arc_value segment))) (take l.segment-index l.others)) 18446744073709551615
