use Rattle.std.proofs.Common.{◌≡◌, vec_len}
use Rattle.left_right.specs.Sides.{view}
use Rattle.clip_desk.specs.Ends.{seen_keeps}
use Rattle.clip_desk.specs.Seats.{AreSeated}
use Rattle.clip_desk.proofs.parts.seat_all.Given as goal

abbrev pub invariant-loop-number : goal.invariant-loop-number
invariant-loop-number g l = record {
  seated : AreSeated l.tag l.callers (seen_keeps (view l.initial.writer.desk.place)) l.seen_history.seen.book
      l.seats.items;
  count : vec_len l.seats ≡ l.number;
  view_same : view l.writer.desk.place ≡ view l.initial.writer.desk.place;
  left_given : l.left.given ≡ l.number;
  left_book : l.left.book ≡ l.seen_history.seen.book;
  shown_same : l.writer.desk.shown ≡ l.initial.writer.desk.shown;
}
