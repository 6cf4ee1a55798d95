use Rattle.std.proofs.Common.{rules}
use Rattle.clip_registry.proofs.roster.add_seq.Goals as goal

pub returns-in_ok-push : goal.returns-in_ok-push
returns-in_ok-push c = search rules
