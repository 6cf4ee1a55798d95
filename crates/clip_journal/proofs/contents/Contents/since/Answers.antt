use Rattle.clip_journal.proofs.Whole.{says_since}
use Rattle.clip_journal.proofs.contents.Contents.since.Goals as goal

pub returns : goal.returns
returns c = rw c.deref.ensures.value (says_since c.args.self.now.said.items _)
