use Rattle.std.proofs.Common.{arith}
use Rattle.clip_run.proofs.Seats.{only_seat}
use Rattle.clip_run.proofs.session.run_desk.Goals as goal

pub run_seated-answer-requires-clause-only : goal.run_seated-answer-requires-clause-only
run_seated-answer-requires-clause-only g c κs within =
    let e = c.open-desk.ensures in
    let seats = c.open-desk.result.1 in
    let held = seats.ok.0 in
    only_seat c.args.parts.tag c.args.parts.callers c.args.parts.keeps c.args.parts.book g.N.DeskName.book
    g.N.DeskName.callers c.open-desk.result.0 seats.items c.pop.new.self.items c.in-Some.seat e.seats.0
    c.in-Some.ensures.items (omega (arith, held, e.seats.1, c.requires.one)) c.requires.one c.requires.named.0
    c.requires.named.1 e.desk.0 e.desk.1
