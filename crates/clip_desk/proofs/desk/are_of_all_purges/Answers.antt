use Rattle.std.proofs.Common.{ap, arith}
use Rattle.std.proofs.lemmas.List.Sums.{sum_by_more}
use Rattle.clip_desk.specs.Seats.{SeatIs}
use Rattle.clip_desk.proofs.desk.are_of_all_purges.Goals as goal

pub loop-seat-preserved : goal.loop-seat-preserved
loop-seat-preserved g c =
    let more = sum_by_more (λ (s : SeatIs). s.purges) c.args.seats.now c.loop-seat.seat-index c.seat-item.result
    (omega arith) in
    let item = ap (λ (s : SeatIs). s.purges) c.seat-item.is in
    omega (arith, more, item, c.loop-seat.invariant)
