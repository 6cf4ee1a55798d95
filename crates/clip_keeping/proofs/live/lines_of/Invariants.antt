use Rattle.std.proofs.Common.{◌≡◌, map, take}
use Rattle.clip_journal.specs.Kept.{says}
use Rattle.clip_keeping.specs.Live.{line_of}
use Rattle.clip_keeping.proofs.live.lines_of.Given as goal

-- the lines of the first entries
abbrev pub invariant-loop-entry : goal.invariant-loop-entry
invariant-loop-entry l = says l.lines.items
    ≡ map (λ r. line_of r.standing) (map (λ e. e.now) (take l.entry-index l.entries))
