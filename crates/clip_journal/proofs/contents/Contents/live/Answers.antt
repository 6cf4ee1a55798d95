use Rattle.std.proofs.Common.{arith}
use Rattle.clip_journal.proofs.Whole.{says_live}
use Rattle.clip_journal.proofs.contents.Contents.live.Goals as goal

pub returns : goal.returns
returns c = rw c.deref.ensures.value (says_live c.args.self.now.said.items _ _ (omega arith))
