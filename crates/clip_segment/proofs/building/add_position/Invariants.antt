use Rattle.std.proofs.Common.{◌≡◌, ℕ, List, map, take, length, vec_items}
use Rattle.clip_extract.specs.Keys.{KeyValue, key_of}
use Rattle.clip_segment.specs.Steps.Ends.{with_positions, NoneEnds}
use Rattle.clip_segment.proofs.building.add_position.Given as goal

abbrev pub invariant-loop-key : goal.invariant-loop-key
invariant-loop-key l = record {
  long : length l.lists.items ≡ length l.terms;
  lists : (under : KeyValue → List ℕ) → NoneEnds under l.position
      → map vec_items l.initial.lists.items ≡ map under l.terms
      → map vec_items l.lists.items
      ≡ map (with_positions (map key_of (take l.key-index l.keys)) l.position under) l.terms;
}
