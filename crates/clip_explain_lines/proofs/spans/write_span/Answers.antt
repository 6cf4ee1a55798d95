-- Answered here, so that a wrong body is refused at once.
use Rattle.std.proofs.Common.{rules}
use Rattle.clip_explain_lines.proofs.spans.write_span.Goals as goal

pub returns : goal.returns
returns c = search rules
