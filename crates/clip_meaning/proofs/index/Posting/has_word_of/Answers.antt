use Rattle.std.proofs.Common.{rules}
use Rattle.clip_meaning.proofs.index.Posting.has_word_of.Goals as goal

pub returns-then-self-other : goal.returns-then-self-other
returns-then-self-other c = search rules
