use Rattle.std.proofs.Common.{refl}
use Rattle.clip_run.specs.Crews.{course_at}
use Rattle.clip_run.proofs.Headline.{run_gives_lines}
use Rattle.clip_run.proofs.Outcomes.{ended_ok, ended_err}
use Rattle.clip_run.proofs.session.serve_and_stop.Goals as goal

pub returns : goal.returns
returns g c =
    let s = c.serve_crew-answer in
    let e = s.ensures in
    let b = c.requires.begins in
    let hearers = g.A.Audience.hearers in
    let left = g.S.Source.left in
    let input = left c.args.reader.now in
    let taken = g.W.Sink.taken in
    record {
      outcome = ended_ok hearers c.args.crew.now s.new.crew c.stop.new.self.rows c.args.audience.now s.new.audience
          input (taken c.args.writer.now) (taken s.new.writer) s.result b.0 b.1 c.stop.ensures e.settled e.served;
      honest = e.honest;
      front = ended_err hearers c.args.crew.now s.new.crew c.args.audience.now s.new.audience input (left s.new.reader)
          (g.S.Source.met_end s.new.reader) (taken c.args.writer.now) (taken s.new.writer) s.result b.1 e.front;
      none_held = λ failed.
          let held = e.none_held failed in (
            held.0,
            run_gives_lines (course_at hearers) (c.args.crew.now, c.args.audience.now) (s.new.crew, s.new.audience)
                c.args.crew.now.settings input (left s.new.reader) (g.S.Source.met_end s.new.reader)
                (taken c.args.writer.now) (taken s.new.writer) refl b.1 held.1 held.2,
          );
    }
