use Rattle.std.proofs.Common.{ap, map}
use Rattle.clip_front.specs.Outcome.{GivesAllFrom, GivesFrontFrom, GivesLinesFrom, names_in}
use Rattle.clip_stream.specs.Lines.{OfInput, OfLinesRead}
use Rattle.clip_run.proofs.Outcomes.{ok_from_nothing, err_from_nothing, from_nothing}
use Rattle.clip_run.proofs.session.run.Goals as goal

pub returns : goal.returns
returns g c =
    let r = c.run_again in
    let hearers = g.A.Audience.hearers in
    let here = hearers c.args.audience.now in
    let there = hearers r.new.audience in
    let left = g.S.Source.left in
    let taken = g.W.Sink.taken in
    let old = taken c.args.writer.now in
    let new = taken r.new.writer in
    let none = ap (map (λ line. line.items)) c.new.ensures.items in
    record {
      outcome = ok_from_nothing (names_in here) _ r.result
          (λ ended begins. OfInput (left c.args.reader.now)
          (GivesAllFrom begins here there c.args.settings old new ended.lines ended.ledger)) none r.ensures.outcome;
      honest = r.ensures.honest;
      front = err_from_nothing (names_in here) _ r.result
          (λ begins. OfLinesRead (left c.args.reader.now) (left r.new.reader) (g.S.Source.met_end r.new.reader)
          (GivesFrontFrom begins here there c.args.settings.form old new)) none r.ensures.front;
      none_held = λ failed.
          let held = r.ensures.none_held failed in (
            held.0,
            from_nothing (names_in here) _ (λ begins. OfLinesRead (left c.args.reader.now) (left r.new.reader)
                (g.S.Source.met_end r.new.reader) (GivesLinesFrom begins here there c.args.settings.form old new))
                none held.1,
          );
    }
