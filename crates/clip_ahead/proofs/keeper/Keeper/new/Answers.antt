use Rattle.std.proofs.Common.{sym, ◌∙◌}
use Rattle.clip_stream.proofs.Bytes.{cut_nothing}
use Rattle.clip_ahead.proofs.keeper.Keeper.new.Goals as goal

pub returns-clause-holds : goal.returns-clause-holds
returns-clause-holds g c =
    λ begun a. record { appended = a; piece = c.new-piece.ensures.items ∙ sym cut_nothing }
