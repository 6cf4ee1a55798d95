use Rattle.std.proofs.Common.{◌<◌, ◌≤◌, length, map, ap, sym, ◌∙◌, arith}
use Rattle.std.proofs.lemmas.Bool.{le-leb, lt-leb}
use Rattle.std.proofs.lemmas.List.{take_all}
use Rattle.std.proofs.lemmas.List.Sums.{sum_by_more_le}
use Rattle.std.specs.Arc.{arc_value}
use Rattle.std.specs.List.{sum_by}
use Rattle.clip_indexed.specs.Segment.{all_entries}
use Rattle.clip_merge.proofs.Totals.{entries_together, sum_of_map}
use Rattle.clip_merge.proofs.payment.have_at_most.Goals as goal

pub returns-then-room-len : goal.returns-then-room-len
returns-then-room-len g c =
    let segments = c.args.segments.now in
    let total = entries_together (map arc_value segments) ∙ sum_of_map arc_value length segments in
    let within = sum_by_more_le (λ segment. length (arc_value segment)) segments c.loop-segment.segment-index
    c.segment-item.result c.loop-segment-test.true in
    let same = ap (λ segment. length (arc_value segment)) c.segment-item.is in
    let len = c.len-len.ensures ∙ ap length c.deref.ensures in
    let above : c.args.most < length (all_entries (map arc_value segments)) = omega (arith, c.loop-segment.invariant) in
    sym (lt-leb (length (all_entries (map arc_value segments))) c.args.most above)

pub returns : goal.returns
returns g c =
    let segments = c.args.segments.now in
    let total = entries_together (map arc_value segments) ∙ sum_of_map arc_value length segments in
    let all = ap (sum_by (λ segment. length (arc_value segment)))
    (take_all c.loop-segment.segment-index segments c.loop-segment-test.false) in
    let within : length (all_entries (map arc_value segments)) ≤ c.args.most =
    omega (arith, c.loop-segment.invariant) in
    sym (le-leb (length (all_entries (map arc_value segments))) c.args.most within)
