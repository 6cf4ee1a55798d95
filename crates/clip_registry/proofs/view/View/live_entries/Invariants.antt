use Rattle.std.proofs.Common.{◌≡◌, filter, map, take}
use Rattle.std.specs.Arc.{arc_value}
use Rattle.clip_model.specs.History.{is_live}
use Rattle.clip_indexed.specs.Segment.{all_entries}
use Rattle.clip_registry.proofs.view.View.live_entries.Given as goal

abbrev pub invariant-loop-place : goal.invariant-loop-place
invariant-loop-place g l = map (λ e. e.now) l.found.items
    ≡ filter (λ r. is_live l.self.history r.seq) (all_entries (map arc_value (take l.place l.segment-items)))
