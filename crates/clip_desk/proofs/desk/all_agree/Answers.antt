use Rattle.std.proofs.Common.{refl, arith}
use Rattle.clip_desk.specs.Seats.{IsAccounted}
use Rattle.clip_desk.proofs.Seating.{item_more, item_inside}
use Rattle.clip_desk.proofs.desk.all_agree.Goals as goal

pub loop-seat-preserved : goal.loop-seat-preserved
loop-seat-preserved g c =
    item_more (IsAccounted c.args.tag c.args.locked.now.registry.history) c.args.seats.now c.loop-seat.seat-index
    c.seat-item.result (omega arith) c.seat-item.is c.loop-seat.invariant (c.if-not-agrees.ensures refl)

pub returns : goal.returns
returns g c all k s at = let inside = item_inside c.args.seats.now k s at in
    c.loop-seat.invariant k s (omega (arith, inside)) at
