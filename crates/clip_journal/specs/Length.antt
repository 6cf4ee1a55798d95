-- When a journal is long.
use Rattle.std.specs.Prelude.{ℕ, ◌*◌, ◌&&◌, Bool, nat_lt, length}
use Rattle.clip_journal.specs.Kept.{Kept}
use Rattle.clip_journal.specs.declared.length.TheConstants.{FEW_COMMANDS}

-- more commands since than a few, and more than twice as many as there were queries
abbrev pub are_long : ℕ → ℕ → Bool
are_long live since = nat_lt FEW_COMMANDS since && nat_lt (2 * live) since

-- so it is of what is kept since it was written anew
abbrev pub is_long : Kept → Bool
is_long kept = are_long (length kept.live) (length kept.since)
