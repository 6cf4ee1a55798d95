use Rattle.std.proofs.Common.{refl, sym, ◌∙◌, arith}
use Rattle.std.proofs.lemmas.Bool.{false≢true}
use Rattle.std.specs.Arc.{arc_value}
use Rattle.clip_registry.proofs.Equal.{same_more, same_at}
use Rattle.clip_registry.proofs.same.are_same_segments.Goals as goal

pub returns-then-not-are_same_entries : goal.returns-then-not-are_same_entries
returns-then-not-are_same_entries g c = (
  λ h. absurd (false≢true h),
  λ same. c.if-not-are_same_entries.ensures.1
      (c.entries.ensures.value ∙ c.deref.ensures
      ∙ same_at arc_value c.args.a.now c.args.b.now c.loop-place.place c.index-a-place.result c.index-b-place.result
      (omega arith) (omega arith) c.index-a-place.is c.index-b-place.is same
      ∙ sym c.deref-in-loop-place.ensures ∙ sym c.entries-in-loop-place.ensures.value),
)

pub loop-place-preserved : goal.loop-place-preserved
loop-place-preserved g c =
    same_more arc_value c.args.a.now c.args.b.now c.loop-place.place c.index-a-place.result c.index-b-place.result
    (omega arith) (omega arith) c.index-a-place.is c.index-b-place.is
    (sym c.deref.ensures ∙ sym c.entries.ensures.value ∙ c.if-not-are_same_entries.ensures.0 refl
    ∙ c.entries-in-loop-place.ensures.value ∙ c.deref-in-loop-place.ensures) c.loop-place.invariant
