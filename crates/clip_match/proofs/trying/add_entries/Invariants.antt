use Rattle.std.proofs.Common.{◌≡◌, ◌++◌, All, List, map, take}
use Rattle.clip_meaning.specs.Hits.{HitValue}
use Rattle.clip_match.specs.declared.held.HitsFound.TheVariants.{WhenAsked}
use Rattle.clip_match.specs.Steps.Held.{HasItsHits}
use Rattle.clip_match.specs.Steps.Positions.{entries_at}
use Rattle.clip_match.proofs.trying.add_entries.Given as goal

abbrev pub invariant-loop-position : goal.invariant-loop-position
invariant-loop-position l = record {
  entries : map (λ h. h.registered.now) l.held.items ≡ map (λ h. h.registered.now) l.fn.held.items
      ++ entries_at l.reading.entries (take l.position-index l.positions);
  hits : (all : List HitValue) → All (HasItsHits WhenAsked l.reading.article all) l.fn.held.items
      → All (HasItsHits WhenAsked l.reading.article all) l.held.items;
}
