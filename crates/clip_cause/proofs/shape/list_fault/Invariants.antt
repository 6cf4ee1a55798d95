use Rattle.std.proofs.Common.{◌≡◌, drop}
use Rattle.serde_json.specs.Find.{as_array}
use Rattle.serde_json.specs.View.{view, items_view}
use Rattle.clip_cause.specs.Shapes.{items_fault, list_by}
use Rattle.clip_cause.specs.Steps.Listed.{item_fault, listed_name}
use Rattle.clip_cause.proofs.shape.list_fault.Given as goal

abbrev pub invariant-loop-place : goal.invariant-loop-place
invariant-loop-place l =
    list_by (listed_name l.listed) (item_fault l.listed) (as_array (view l.list))
    ≡ items_fault (listed_name l.listed) (item_fault l.listed) l.place (items_view (drop l.place l.item-items))
