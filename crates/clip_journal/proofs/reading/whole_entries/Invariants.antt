use Rattle.std.proofs.Common.{length}
use Rattle.clip_journal.specs.Kept.{says}
use Rattle.clip_journal.proofs.Whole.{IsRead}
use Rattle.clip_journal.proofs.reading.whole_entries.Given as goal

abbrev pub invariant-entries : goal.invariant-entries
invariant-entries l = IsRead l.bytes (says l.said.items) l.link l.rest

abbrev pub decreases-entries : goal.decreases-entries
decreases-entries l = length l.rest
