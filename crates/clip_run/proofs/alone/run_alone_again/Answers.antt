use Rattle.std.proofs.Common.{ap, map, refl, rules}
use Rattle.std.proofs.lemmas.Result.{err_from_is_err_and}
use Rattle.std.specs.Prelude.{Err}
use Rattle.clip_stream.proofs.Faults.{on_err}
use Rattle.clip_run.proofs.AnsweredAlone.{alone_gives, alone_gives_front, alone_gives_lines}
use Rattle.clip_run.proofs.Outcomes.{ran_again, ran_again_none, refused_is}
use Rattle.clip_run.proofs.alone.run_alone_again.Goals as goal

pub returns-in_err-take_kept : goal.returns-in_err-take_kept
returns-in_err-take_kept g c =
    ran_again_none (map (λ line. line.items) c.args.kept.items) c.args.settings _ c.from_residual.result
    (refused_is c.from_residual.result c.from_residual.ensures.1) c.requires.fresh.unread

pub returns-in_err-lines : goal.returns-in_err-lines
returns-in_err-lines g c =
    let hearers = g.A.Audience.hearers in
    let registry = c.take_kept.new.registry in
    let began = registry.registrar.history in
    ran_again (map (λ line. line.items) c.args.kept.items) c.args.settings _ _ _ _ began
    (ap (λ s. s.history) c.new.ensures.registrar) c.in_ok-take_kept.ensures (record {
      outcome = search rules;
      honest = search rules;
      front = on_err c.from_residual-in_err-lines.result
          (alone_gives_front hearers (
            record { registry = registry; payment = c.towards.result; giver = c.new-2.result },
            c.args.audience.now,
          ) (c.serve.new.server, c.serve.new.lent) began c.args.settings
          (g.R.Source.left c.args.reader.now) (g.R.Source.left c.serve.new.reader)
          (g.R.Source.met_end c.serve.new.reader) (g.W.Sink.taken c.args.writer.now)
          (g.W.Sink.taken c.serve.new.writer) refl c.new-2.ensures.settings c.in_err-lines.ensures.front);
      none_held = λ failed.
          let on = err_from_is_err_and c.from_residual-in_err-lines.result
          c.from_residual-in_err-lines.ensures.1 in
          let held = c.in_err-lines.ensures.none_held (ap Err (cc (failed, on.1, on.2))) in (
            held.0,
            alone_gives_lines hearers (
              record { registry = registry; payment = c.towards.result; giver = c.new-2.result },
              c.args.audience.now,
            ) (c.serve.new.server, c.serve.new.lent) began c.args.settings
                (g.R.Source.left c.args.reader.now) (g.R.Source.left c.serve.new.reader)
                (g.R.Source.met_end c.serve.new.reader) (g.W.Sink.taken c.args.writer.now)
                (g.W.Sink.taken c.serve.new.writer) refl c.new-2.ensures.settings held.2,
          );
    })

pub returns : goal.returns
returns g c =
    let hearers = g.A.Audience.hearers in
    let registry = c.take_kept.new.registry in
    let began = registry.registrar.history in
    ran_again (map (λ line. line.items) c.args.kept.items) c.args.settings _ _ _ _ began
    (ap (λ s. s.history) c.new.ensures.registrar) c.in_ok-take_kept.ensures (record {
      outcome = rw c.into_ledger.ensures (alone_gives hearers (
        record { registry = registry; payment = c.towards.result; giver = c.new-2.result },
        c.args.audience.now,
      ) (c.serve.new.server, c.serve.new.lent) began c.args.settings
          (g.R.Source.left c.args.reader.now) (g.W.Sink.taken c.args.writer.now) (g.W.Sink.taken c.serve.new.writer)
          c.in_ok-lines.lines refl c.new-2.ensures.ledger c.new-2.ensures.settings c.in_ok-lines.ensures.served);
      honest = search rules;
      front = tt;
      none_held = λ e. absurd (cc e);
    })
