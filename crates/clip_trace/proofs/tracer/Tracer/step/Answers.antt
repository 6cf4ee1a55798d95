use Rattle.clip_trace.specs.Event.{event_of}
use Rattle.clip_trace.proofs.Schedules.{goes_on_if}
use Rattle.clip_trace.proofs.tracer.Tracer.step.Goals as goal

pub returns-clause-goes_on : goal.returns-clause-goes_on
returns-clause-goes_on c =
    goes_on_if c.args.self.now c.play.new.self (event_of c.args.event) c.play.result c.play.ensures.due
    c.play.ensures.stand
