use Rattle.std.proofs.Common.{refl}
use Rattle.clip_stream.proofs.Faults.{on_err}
use Rattle.clip_explain_lines.specs.Steps.Explainers.{form_of}
use Rattle.clip_explain_lines.proofs.Serving.{run_gives, run_gives_front}
use Rattle.clip_explain_lines.proofs.session.explain_lines.Goals as goal

pub returns-in_err-count-clause-front : goal.returns-in_err-count-clause-front
returns-in_err-count-clause-front g c =
    on_err c.from_residual.result
    (run_gives_front form_of (record { alloc = c.args.alloc; form = c.args.form }, tt)
    (c.serve.new.server, c.serve.new.lent) c.args.form
    (g.R.Source.left c.args.reader.now) (g.R.Source.left c.serve.new.reader) (g.R.Source.met_end c.serve.new.reader)
    (g.W.Sink.taken c.args.writer.now) (g.W.Sink.taken c.serve.new.writer) refl c.in_err-count.ensures.front)

pub returns-clause-outcome : goal.returns-clause-outcome
returns-clause-outcome g c =
    run_gives form_of (record { alloc = c.args.alloc; form = c.args.form }, tt)
    (c.serve.new.server, c.serve.new.lent) c.args.form
    (g.R.Source.left c.args.reader.now) (g.W.Sink.taken c.args.writer.now) (g.W.Sink.taken c.serve.new.writer)
    c.in_ok-count.count refl c.in_ok-count.ensures.served
