use Rattle.std.proofs.Common.{◌≡◌, ◌++◌, drop}
use Rattle.clip_protocol.proofs.judged.articles_of.Given as goal

abbrev pub invariant-loop-draft : goal.invariant-loop-draft
invariant-loop-draft l = l.all.items ++ drop l.draft-index l.drafts ≡ l.drafts
