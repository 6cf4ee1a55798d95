use Rattle.std.proofs.Common.{rules}
use Rattle.clip_extract.proofs.extraction.shared_front.Goals as goal

pub returns-then-eq : goal.returns-then-eq
returns-then-eq c = search rules
