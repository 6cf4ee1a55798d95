use Rattle.std.proofs.Common.{◌∙◌, ◌+◌, map, true, false, sym, ap}
use Rattle.std.specs.Arc.{arc_value}
use Rattle.clip_registry.specs.Steps.Pieces.{map_of}
use Rattle.clip_registry.proofs.Joining.{counted_more}
use Rattle.clip_registry.proofs.by_id.ById.insert.Goals as goal

pub invariant_of-self-then-is_none : goal.invariant_of-self-then-is_none
invariant_of-self-then-is_none c = (
  c.in_ok-replaced.ensures.in_order,
  c.in-Some.ensures.1 ∙ ap (λ n. n + 1) c.self.invariant.1
      ∙ sym (counted_more (map_of (map arc_value c.self.inside.pieces.items)) _ c.args.entry.value
      c.in_ok-replaced.replaced false c.in_ok-replaced.ensures.inserted c.in_ok-replaced.ensures.replaced
      c.if-is_none.ensures),
)

pub invariant_of-self-else-is_none : goal.invariant_of-self-else-is_none
invariant_of-self-else-is_none c = (
  c.in_ok-replaced.ensures.in_order,
  c.self.invariant.1
      ∙ sym (counted_more (map_of (map arc_value c.self.inside.pieces.items)) _ c.args.entry.value
      c.in_ok-replaced.replaced true c.in_ok-replaced.ensures.inserted c.in_ok-replaced.ensures.replaced
      c.if-is_none.ensures),
)
