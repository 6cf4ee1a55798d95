use Rattle.std.proofs.Common.{◌∙◌, ◌-◌, map, true, false, sym, ap}
use Rattle.std.specs.Arc.{arc_value}
use Rattle.clip_registry.specs.Steps.Pieces.{map_of}
use Rattle.clip_registry.proofs.Joining.{counted_less, some_counted}
use Rattle.clip_registry.proofs.by_id.ById.remove.Goals as goal

pub overflow_sub-self : goal.overflow_sub-self
overflow_sub-self c = rw c.self.invariant.1
    (some_counted (map_of (map arc_value c.self.inside.pieces.items)) c.args.id.now c.in_ok-gone.gone
    c.in_ok-gone.ensures.gone (sym c.if-is_some.ensures))

pub invariant_of-self-then-is_some : goal.invariant_of-self-then-is_some
invariant_of-self-then-is_some c = (
  c.in_ok-gone.ensures.in_order,
  ap (λ n. n - 1) c.self.invariant.1
      ∙ sym (counted_less (map_of (map arc_value c.self.inside.pieces.items)) _ c.args.id.now c.in_ok-gone.gone true
      c.in_ok-gone.ensures.removed c.in_ok-gone.ensures.gone (sym c.if-is_some.ensures)),
)

pub invariant_of-self-else-is_some : goal.invariant_of-self-else-is_some
invariant_of-self-else-is_some c = (
  c.in_ok-gone.ensures.in_order,
  c.self.invariant.1
      ∙ sym (counted_less (map_of (map arc_value c.self.inside.pieces.items)) _ c.args.id.now c.in_ok-gone.gone false
      c.in_ok-gone.ensures.removed c.in_ok-gone.ensures.gone (sym c.if-is_some.ensures)),
)
