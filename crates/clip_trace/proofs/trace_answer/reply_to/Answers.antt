use Rattle.std.proofs.Common.{ap}
use Rattle.clip_protocol.specs.Reply.{finished}
use Rattle.clip_trace.proofs.Traced.{shown_found}
use Rattle.clip_trace.proofs.trace_answer.reply_to.Goals as goal

pub returns-in-Finished : goal.returns-in-Finished
returns-in-Finished c = rw c.in-Finished.is (ap finished (shown_found c.in-Finished.found.items))
