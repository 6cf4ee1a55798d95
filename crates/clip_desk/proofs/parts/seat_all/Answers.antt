use Rattle.std.proofs.Common.{◌∙◌, ◌+◌, ap, subst, sym, arith, List}
use Rattle.std.proofs.lemmas.Grind.{common_steps}
use Rattle.left_right.specs.Sides.{view}
use Rattle.clip_desk.specs.Ends.{seen_keeps}
use Rattle.clip_desk.specs.Seats.{SeatIs, AreSeated, new_seat}
use Rattle.clip_desk.proofs.Seating.{seated_more}
use Rattle.clip_desk.proofs.parts.seat_all.Goals as goal

pub loop-number-preserved : goal.loop-number-preserved
loop-number-preserved g c =
    let i = c.loop-number.invariant in
    let kept = c.seat_one.ensures.kept in
    let next = ap (λ n. n + 1) i.left_given in
    let caller = c.give.ensures.right.1 ∙ next in
    let keeps = seen_keeps (view c.args.writer.now.desk.place) in
    record {
      seated = subst (λ (l : List SeatIs). AreSeated c.args.tag c.args.callers keeps c.args.seen_history.now.seen.book
          l) (sym c.in_ok-push.ensures.items)
          (seated_more c.args.tag c.args.callers keeps c.args.seen_history.now.seen.book c.loop-number.seats.items
          c.in_ok-seat.seat c.loop-number.number i.seated (grind (arith, common_steps))
          (c.in_ok-seat.ensures.seat
          ∙ (ap (λ v. new_seat c.args.tag c.args.callers (seen_keeps v) c.args.seen_history.now.seen.book
          c.give.result.caller) i.view_same
          ∙ ap (new_seat c.args.tag c.args.callers keeps c.args.seen_history.now.seen.book) caller)));
      count = grind (arith, common_steps);
      left_given = ap (λ r. r.given) c.give.ensures.given ∙ next;
      left_book = ap (λ r. r.book) c.give.ensures.given ∙ i.left_book;
      view_same = kept.0 ∙ i.view_same;
      shown_same = kept.1 ∙ i.shown_same;
    }
