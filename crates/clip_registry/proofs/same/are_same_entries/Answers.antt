use Rattle.std.proofs.Common.{refl, sym, ◌∙◌, arith}
use Rattle.std.proofs.lemmas.Bool.{false≢true}
use Rattle.std.specs.Arc.{arc_value}
use Rattle.clip_registry.proofs.Equal.{same_more, same_at}
use Rattle.clip_registry.proofs.same.are_same_entries.Goals as goal

pub returns-then-not-is_same_entry : goal.returns-then-not-is_same_entry
returns-then-not-is_same_entry c = (
  λ h. absurd (false≢true h),
  λ same. c.if-not-is_same_entry.ensures.1
      (c.deref.ensures
      ∙ same_at arc_value c.args.a.now c.args.b.now c.loop-place.place c.index-a-place.result c.index-b-place.result
      (omega arith) (omega arith) c.index-a-place.is c.index-b-place.is same
      ∙ sym c.deref-in-loop-place.ensures),
)

pub loop-place-preserved : goal.loop-place-preserved
loop-place-preserved c =
    same_more arc_value c.args.a.now c.args.b.now c.loop-place.place c.index-a-place.result c.index-b-place.result
    (omega arith) (omega arith) c.index-a-place.is c.index-b-place.is
    (sym c.deref.ensures ∙ c.if-not-is_same_entry.ensures.0 refl ∙ c.deref-in-loop-place.ensures) c.loop-place.invariant
