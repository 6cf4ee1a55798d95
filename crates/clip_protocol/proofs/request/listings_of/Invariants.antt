use Rattle.std.proofs.Common.{◌≡◌, ◌++◌, map, option_map}
use Rattle.std.specs.Vec.Iter.{into_iter_items}
use Rattle.serde_json.specs.View.{items_view}
use Rattle.clip_protocol.specs.Steps.Outline.{all_of, listing_of}
use Rattle.clip_protocol.specs.Steps.Views.{listing_view}
use Rattle.clip_protocol.proofs.request.listings_of.Given as goal

abbrev pub invariant-loop-item : goal.invariant-loop-item
invariant-loop-item l = option_map (λ more. map listing_view l.all.items ++ more)
    (all_of listing_of (items_view (into_iter_items l.item-iterator))) ≡ all_of listing_of (items_view l.fn.items.items)
