use Rattle.std.proofs.Common.{◌≡◌, ◌≤◌, filter, length, take}
use Rattle.clip_meaning.specs.Meaning.{holds}
use Rattle.std.specs.List.{All}
use Rattle.clip_match.specs.Steps.Positions.{entries_at, IsSharer}
use Rattle.clip_match.proofs.trying.keep_possible.Given as goal

abbrev pub invariant-loop-position : goal.invariant-loop-position
invariant-loop-position l = record {
  holding : filter (λ r. holds r.standing.tree l.reading.article.fields)
      (entries_at l.reading.entries l.possible.items)
      ≡ filter (λ r. holds r.standing.tree l.reading.article.fields)
      (entries_at l.reading.entries (take l.position-index l.positions));
  sharers : All (IsSharer l.reading) l.positions → All (IsSharer l.reading) l.possible.items;
  few : length l.possible.items ≤ l.position-index;
}
