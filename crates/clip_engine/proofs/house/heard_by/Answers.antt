use Rattle.std.proofs.Common.{inr}
use Rattle.clip_stream.proofs.Faults.{on_err}
use Rattle.clip_engine.proofs.house.heard_by.Goals as goal

pub returns-in_err-text-clause-err : goal.returns-in_err-text-clause-err
returns-in_err-text-clause-err c = on_err _ (inr c.in_ok-hear.ensures.ok)
