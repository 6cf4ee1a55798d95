use Rattle.std.proofs.Common.{map}
use Rattle.clip_stream.proofs.Faults.{on_err}
use Rattle.clip_run.specs.Ran.{told}
use Rattle.clip_run.proofs.Outcomes.{again_ok, again_err, again_none_held, kept_refused}
use Rattle.clip_run.proofs.session.run_again.Goals as goal

pub returns-in_err-parts-clause-front : goal.returns-in_err-parts-clause-front
returns-in_err-parts-clause-front g c =
    on_err c.from_residual.result
    (kept_refused (map (λ line. line.items) c.args.beginning.kept.items) c.args.beginning.settings.form
    (g.A.Audience.hearers c.args.audience.now) (g.S.Source.left c.args.reader.now)
    (g.S.Source.met_end c.args.reader.now) (g.W.Sink.taken c.args.writer.now))

pub returns-clause-outcome : goal.returns-clause-outcome
returns-clause-outcome g c =
    again_ok _ c.args.beginning.settings
    (told g.S.Source g.W.Sink g.A.Audience c.args.reader.now c.args.writer.now c.args.audience.now)
    (told g.S.Source g.W.Sink g.A.Audience c.run_desk.new.reader c.run_desk.new.writer c.run_desk.new.audience)
    c.run_desk.result c.run_desk.ensures

pub returns-clause-front : goal.returns-clause-front
returns-clause-front g c =
    again_err _ c.args.beginning.settings
    (told g.S.Source g.W.Sink g.A.Audience c.args.reader.now c.args.writer.now c.args.audience.now)
    (told g.S.Source g.W.Sink g.A.Audience c.run_desk.new.reader c.run_desk.new.writer c.run_desk.new.audience)
    c.run_desk.result c.run_desk.ensures

pub returns-clause-none_held : goal.returns-clause-none_held
returns-clause-none_held g c =
    again_none_held _ c.args.beginning.settings
    (told g.S.Source g.W.Sink g.A.Audience c.args.reader.now c.args.writer.now c.args.audience.now)
    (told g.S.Source g.W.Sink g.A.Audience c.run_desk.new.reader c.run_desk.new.writer c.run_desk.new.audience)
    c.run_desk.result c.run_desk.ensures

pub returns-then-beginning-eq0-clause-outcome : goal.returns-then-beginning-eq0-clause-outcome
returns-then-beginning-eq0-clause-outcome g c =
    let alone = c.run_alone_again in
    again_ok _ c.args.beginning.settings
    (told g.S.Source g.W.Sink g.A.Audience c.args.reader.now c.args.writer.now c.args.audience.now)
    (told g.S.Source g.W.Sink g.A.Audience alone.new.reader alone.new.writer alone.new.audience) alone.result
    alone.ensures

pub returns-then-beginning-eq0-clause-front : goal.returns-then-beginning-eq0-clause-front
returns-then-beginning-eq0-clause-front g c =
    let alone = c.run_alone_again in
    again_err _ c.args.beginning.settings
    (told g.S.Source g.W.Sink g.A.Audience c.args.reader.now c.args.writer.now c.args.audience.now)
    (told g.S.Source g.W.Sink g.A.Audience alone.new.reader alone.new.writer alone.new.audience) alone.result
    alone.ensures

pub returns-then-beginning-eq0-clause-none_held : goal.returns-then-beginning-eq0-clause-none_held
returns-then-beginning-eq0-clause-none_held g c =
    let alone = c.run_alone_again in
    again_none_held _ c.args.beginning.settings
    (told g.S.Source g.W.Sink g.A.Audience c.args.reader.now c.args.writer.now c.args.audience.now)
    (told g.S.Source g.W.Sink g.A.Audience alone.new.reader alone.new.writer alone.new.audience) alone.result
    alone.ensures
