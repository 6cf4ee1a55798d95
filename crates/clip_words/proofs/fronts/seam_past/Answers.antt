-- Answered here, so that a wrong body is refused at once.
use Rattle.std.proofs.Common.{arith, rules}
use Rattle.std.proofs.lemmas.Grind.{common_steps}
use Rattle.clip_words.proofs.fronts.seam_past.Goals as goal

pub returns-then-not-is_separator-clause-seam : goal.returns-then-not-is_separator-clause-seam
returns-then-not-is_separator-clause-seam c = first_of (search rules, grind (arith, common_steps))
