use Rattle.std.proofs.Common.{sym, ◌∙◌, arith}
use Rattle.std.specs.Arc.{arc_value}
use Rattle.clip_registry.proofs.Equal.{same_at}
use Rattle.clip_registry.proofs.same.are_alike.Goals as goal

pub returns-then-not-is_alike-clause-result : goal.returns-then-not-is_alike-clause-result
returns-then-not-is_alike-clause-result g c = λ same.
    c.if-not-is_alike.ensures
    (c.deref.ensures
    ∙ same_at arc_value c.args.a.now c.args.b.now c.loop-place.place c.index-a-place.result c.index-b-place.result
    (omega arith) (omega arith) c.index-a-place.is c.index-b-place.is same
    ∙ sym c.deref-in-loop-place.ensures)
