use Rattle.clip_trace.specs.Steps.TraceServer.{stand_at}
use Rattle.clip_stream.proofs.Faults.{on_err}
use Rattle.clip_trace.proofs.Traced.{trace_gives, trace_gives_front}
use Rattle.clip_trace.proofs.trace_session.run_trace.Goals as goal

pub returns-in_err-lines-clause-front : goal.returns-in_err-lines-clause-front
returns-in_err-lines-clause-front g c =
    on_err c.from_residual.result
    (trace_gives_front stand_at (record { alloc = c.args.alloc; tracer = c.new.result }, tt)
    (c.serve.new.server, c.serve.new.lent)
    (g.R.Source.left c.args.reader.now) (g.R.Source.left c.serve.new.reader)
    (g.R.Source.met_end c.serve.new.reader) (g.W.Sink.taken c.args.writer.now) (g.W.Sink.taken c.serve.new.writer)
    c.new.ensures c.in_err-lines.ensures.front)

pub returns-clause-outcome : goal.returns-clause-outcome
returns-clause-outcome g c =
    trace_gives stand_at (record { alloc = c.args.alloc; tracer = c.new.result }, tt)
    (c.serve.new.server, c.serve.new.lent)
    (g.R.Source.left c.args.reader.now) (g.W.Sink.taken c.args.writer.now) (g.W.Sink.taken c.serve.new.writer)
    c.in_ok-lines.lines c.new.ensures c.in_ok-lines.ensures.served
