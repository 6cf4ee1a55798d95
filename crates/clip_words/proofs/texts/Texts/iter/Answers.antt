-- Answered here, so that a wrong body is refused at once.
use Rattle.std.proofs.Common.{rules}
use Rattle.clip_words.proofs.texts.Texts.iter.Goals as goal

pub returns : goal.returns
returns c = search rules
