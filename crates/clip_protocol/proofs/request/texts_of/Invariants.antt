use Rattle.std.proofs.Common.{◌≡◌, ◌++◌, map, option_map, string_bytes}
use Rattle.std.specs.Vec.Iter.{into_iter_items}
use Rattle.serde_json.specs.View.{items_view}
use Rattle.clip_protocol.specs.Steps.Outline.{all_of}
use Rattle.serde_json.specs.Find.{as_str}
use Rattle.clip_protocol.proofs.request.texts_of.Given as goal

abbrev pub invariant-loop-item : goal.invariant-loop-item
invariant-loop-item l = option_map (λ more. map string_bytes l.all.items ++ more)
    (all_of as_str (items_view (into_iter_items l.item-iterator))) ≡ all_of as_str (items_view l.fn.items.items)
