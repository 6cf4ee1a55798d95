use Rattle.std.proofs.Common.{◌≡◌, ◌∙◌, ℕ, ap, refl, sym, subst}
use mathlib.Core.List.{IsPrefix}
use Rattle.clip_model.specs.History.{History}
use Rattle.clip_desk.specs.Callers.{IsBy}
use Rattle.clip_desk.specs.Updates.{AllFollow}
use Rattle.clip_desk.proofs.Beginnings.{prefix_self}
use Rattle.clip_desk.proofs.Settling.{settled_next}
use Rattle.clip_desk.proofs.locked.Locked.put.Goals as goal

pub show-requires-clause-later : goal.show-requires-clause-later
show-requires-clause-later g c =
    let shown = c.self.inside.writer.desk.shown.value.view.history in
    let view = c.in_ok-view.view.history in
    let same : shown ≡ view = ap (λ s. s.history) c.self.invariant.0.shown_is
    ∙ (ap (λ s. s.registry.history) c.self.view_is
    ∙ (sym c.requires.same.0 ∙ sym (ap (λ s. s.history) c.in_ok-view.ensures))) in
    subst (IsPrefix shown) same (prefix_self shown)

pub show-requires-clause-callers : goal.show-requires-clause-callers
show-requires-clause-callers g c =
    let i = c.self.invariant.0 in
    let history = c.self.inside.registrar.history in
    let shown = c.self.inside.writer.desk.shown.value in
    let same : history ≡ c.in_ok-view.view.history = ap (λ s. s.registry.history) c.self.view_is
    ∙ (sym c.requires.same.0 ∙ sym (ap (λ s. s.history) c.in_ok-view.ensures)) in
    subst (IsBy shown.callers) same (subst (λ (n : ℕ). IsBy n history) (sym i.shown_callers) i.by)

pub invariant_of-self-2 : goal.invariant_of-self-2
invariant_of-self-2 g c =
    let i = c.self.invariant.0 in
    let s = c.self.inside in
    let history : s.registrar.history ≡ c.args.registrar.history = ap (λ v. v.registry.history) c.self.view_is
    ∙ sym c.requires.same.0 in
    let keeps = c.requires.same.1 ∙ sym (ap (λ v. v.registry.keeps) c.self.view_is) in (
      settled_next i c.in_ok-show.ensures c.in_ok-view.ensures keeps (i.log ∙ history) refl
          (subst (IsBy g.N.DeskName.callers) history i.by) c.requires.purged,
      subst (λ (h : History). AllFollow g.N.DeskName.heard_before h s.purges s.updates) history c.self.invariant.1,
    )
