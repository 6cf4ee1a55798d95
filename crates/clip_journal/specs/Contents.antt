-- What was read back.
use Rattle.std.specs.Prelude.{ℕ, List}
use Rattle.clip_journal.specs.Kept.{Kept, kept_in, says}
use Rattle.clip_journal.specs.declared.contents.Contents.{Contents}

-- what the journal keeps that was found
abbrev pub kept_of : Contents → Kept
kept_of found = kept_in found.changes found.live (says found.said.items)

-- the bytes behind its last entry: less than one
abbrev pub torn_of : Contents → List ℕ
torn_of found = found.torn.items
