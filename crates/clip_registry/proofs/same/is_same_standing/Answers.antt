use Rattle.std.proofs.Common.{◌≡◌, sym, ap, ◌∙◌}
use Rattle.std.proofs.lemmas.Bool.{false≢true}
use Rattle.std.proofs.lemmas.Slice.Eq.{bytes_eq-Decides}
use Rattle.std.specs.Bool.{Decides}
use Rattle.clip_model.specs.Standing.{Standing}
use Rattle.clip_registry.proofs.Equal.{same_standing, options_decide}
use Rattle.clip_registry.proofs.same.is_same_standing.Goals as goal
use Rattle.clip_registry.proofs.same.is_same_standing.Goals.{then-eq, else-eq}

listeners : (c : goal.After-eq-then-eq-2)
    → Decides c.eq-then-eq-2.result (c.args.a.now.listener ≡ c.args.b.now.listener)
listeners c =
    let d = options_decide _ (λ x y. bytes_eq-Decides x.now y.now) c.listener.result c.listener-then-eq-2.result in (
      λ h. sym c.listener.ensures ∙ d.0 (sym c.eq-then-eq-2.ensures ∙ h) ∙ c.listener-then-eq-2.ensures,
      λ h. c.eq-then-eq-2.ensures ∙ d.1 (c.listener.ensures ∙ h ∙ sym c.listener-then-eq-2.ensures),
    )

pub returns-then-eq-2 : goal.returns-then-eq-2
returns-then-eq-2 c = elim c.if-eq.branch [
  | then-eq w ↦
      let ids : c.args.a.now.id ≡ c.args.b.now.id =
      sym c.id.ensures ∙ (bytes_eq-Decides c.id.result.now c.id-2.result.now).0 (sym c.eq.ensures ∙ w.if-eq.true)
      ∙ c.id-2.ensures in
      let texts : c.args.a.now.text ≡ c.args.b.now.text =
      sym w.text.ensures ∙ (bytes_eq-Decides w.text.result.now w.text-then-eq.result.now).0 (sym w.eq-then-eq.ensures
      ∙ sym w.value-is ∙ c.if-eq-2.true) ∙ w.text-then-eq.ensures in (
        λ h. same_standing c.args.a.now c.args.b.now c.law.ensures c.law-2.ensures ids texts ((listeners c).0 h),
        λ h. (listeners c).1 (ap (λ (s : Standing). s.listener) h),
      )
  | else-eq w ↦ absurd (false≢true (sym w.if-eq.false ∙ sym w.value-is ∙ c.if-eq-2.true))
]
