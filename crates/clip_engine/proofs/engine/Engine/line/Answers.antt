-- Answered here, so that a wrong body is refused at once.
use Rattle.std.proofs.Common.{rules}
use Rattle.clip_engine.proofs.engine.Engine.line.Goals as goal

pub returns-in-Ok-answer-clause-replies : goal.returns-in-Ok-answer-clause-replies
returns-in-Ok-answer-clause-replies c = search rules

pub returns-in-Err-clause-unchanged : goal.returns-in-Err-clause-unchanged
returns-in-Err-clause-unchanged c = search rules
