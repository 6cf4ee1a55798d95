use Rattle.std.proofs.Common.{rules}
use Rattle.clip_desk.proofs.ends.show_surely.Goals as goal

pub returns : goal.returns
returns g c = search rules
