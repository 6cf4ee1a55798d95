use Rattle.std.proofs.Common.{◌≡◌, ◌++◌, map, option_map}
use Rattle.std.specs.Vec.Iter.{into_iter_items}
use Rattle.serde_json.specs.View.{items_view}
use Rattle.clip_protocol.specs.Steps.Outline.{all_of, draft_of}
use Rattle.clip_protocol.specs.Steps.Views.{draft_view}
use Rattle.clip_protocol.proofs.request.drafts_of.Given as goal

abbrev pub invariant-loop-item : goal.invariant-loop-item
invariant-loop-item l = option_map (λ more. map draft_view l.all.items ++ more)
    (all_of draft_of (items_view (into_iter_items l.item-iterator))) ≡ all_of draft_of (items_view l.fn.items.items)
