use Rattle.std.proofs.Common.{◌≡◌, ◌++◌, All, map, take}
use Rattle.clip_meaning.specs.Hits.{hit_value}
use Rattle.clip_match.specs.Steps.Held.{HasItsHits}
use Rattle.clip_match.specs.Steps.Positions.{entries_at}
use Rattle.clip_match.proofs.trying.add_with_hits.Given as goal

abbrev pub invariant-loop-position : goal.invariant-loop-position
invariant-loop-position l = record {
  entries : map (λ h. h.registered.now) l.entries.held.items ≡ map (λ h. h.registered.now) l.fn.entries.held.items
      ++ entries_at l.reading.entries (take l.position-index l.positions);
  hits : All (HasItsHits l.hits l.reading.article (map hit_value l.fn.entries.all_hits.items)) l.fn.entries.held.items
      → All (HasItsHits l.hits l.reading.article (map hit_value l.entries.all_hits.items)) l.entries.held.items;
}
