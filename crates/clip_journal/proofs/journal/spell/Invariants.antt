use Rattle.std.proofs.Common.{◌≡◌, length, take}
use Rattle.clip_journal.specs.Entries.{numbers}
use Rattle.clip_journal.specs.Kept.{says}
use Rattle.clip_journal.proofs.Spelled.{IsSpelled}
use Rattle.clip_journal.proofs.journal.spell.Given as goal

abbrev pub invariant-loop-query : goal.invariant-loop-query
invariant-loop-query l = record {
  spelled : IsSpelled (numbers l.fn.changes (length l.live)) (says (take l.query-index l.live)) l.bytes.items l.link;
  place : l.place ≡ l.query-index;
}
