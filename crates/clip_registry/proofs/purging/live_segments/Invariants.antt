use Rattle.std.proofs.Common.{◌≡◌, map, take, filter}
use Rattle.std.specs.Arc.{arc_value}
use Rattle.clip_model.specs.History.{replay}
use Rattle.clip_registry.specs.Merging.{has_entries, live_of}
use Rattle.clip_registry.specs.Steps.LiveFlags.{flags_in}
use Rattle.clip_registry.proofs.purging.live_segments.Given as goal

abbrev pub invariant-loop-place : goal.invariant-loop-place
invariant-loop-place g l = record {
  kept : map arc_value l.segments.items
      ≡ filter has_entries (map (live_of l.state) (take l.place l.state.segments));
  flags : l.live.items ≡ flags_in (replay l.state.history) (map arc_value l.segments.items);
}
