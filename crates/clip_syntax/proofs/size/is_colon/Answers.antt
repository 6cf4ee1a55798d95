use Rattle.clip_syntax.proofs.Colons.{no_colon}
use Rattle.clip_syntax.proofs.size.is_colon.Goals as goal

pub returns-in_default : goal.returns-in_default
returns-in_default c = no_colon c.args.token.now c.in_default.not-Colon
