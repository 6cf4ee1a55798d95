use Rattle.std.proofs.Common.{rules}
use Rattle.clip_engine.proofs.code.code_of.Goals as goal

pub returns-in-Refused-Full-clause-is : goal.returns-in-Refused-Full-clause-is
returns-in-Refused-Full-clause-is c = search rules
