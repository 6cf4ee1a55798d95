use Rattle.std.proofs.Common.{◌≡◌, ◌==◌, eqb, Ok, not, is_some, refl, sym, ap, subst, ◌∙◌, inl, inr, map}
use Rattle.std.specs.List.{IsDistinct, filter}
use Rattle.clip_registry.specs.RegistryState.{RegistryState}
use Rattle.clip_trace.specs.Event as event
use Rattle.clip_trace.specs.Event.{answer_of}
use Rattle.clip_trace.specs.Schedule.{IsDueTo, after, without_merge}
use Rattle.clip_trace.specs.Steps.Tracer.{tracer_inside}
use Rattle.clip_trace.proofs.Numbered.{any_is, Stands, stands, removed_numbers, removed_distinct}
use Rattle.clip_trace.proofs.Refusals.{due_unknown, due_done}
use Rattle.clip_trace.proofs.tracer.Tracer.install.Goals as goal
use Rattle.clip_trace.proofs.tracer.Tracer.install.Goals.{in-Done, in-Stale}

pub returns-in_default-clause-due : goal.returns-in_default-clause-due
returns-in_default-clause-due c =
    let unknown = any_is c.args.merge _ _ _ c.deref.ensures.value c.place_of.ensures ∙ ap is_some c.in_default.is in
    subst (λ s. IsDueTo s (event.Install c.args.merge) event.Unknown) c.self.view_is
    (due_unknown (tracer_inside c.self.inside) (event.Install c.args.merge) (ap not unknown))

there : (c : goal.After-drop-remove) → Stands c.args.merge c.in-Some.place c.index.result.now c.self.inside.merges.items
there c = stands c.args.merge c.in-Some.place c.index.result.now _ _ _ c.deref.ensures.value c.place_of.ensures
    c.in-Some.is c.index.ensures

pub invariant_of-self-2 : goal.invariant_of-self-2
invariant_of-self-2 c = record {
  merges = subst (λ ms. IsDistinct eqb (map (λ m. m.0) ms)) (sym c.remove.ensures.items)
      (removed_distinct c.self.invariant.merges (there c));
  batches = c.self.invariant.batches;
}

pub returns-clause-due : goal.returns-clause-due
returns-clause-due c =
    let known = any_is c.args.merge _ _ _ c.deref.ensures.value c.place_of.ensures ∙ ap is_some c.in-Some.is in
    let answer = answer_of c.match-branch-3.answer in
    subst (λ s. IsDueTo s (event.Install c.args.merge) answer) c.self.view_is
    (due_done (tracer_inside c.self.inside) (event.Install c.args.merge) answer (ap not known) refl refl refl
    (elim c.match-branch-3.branch [
      | in-Done w ↦ inl (ap answer_of w.answer-is)
      | in-Stale w ↦
          inr (ap answer_of w.answer-is)
    ]))

-- an installed merge keeps the history
history : (c : goal.After-drop-remove) → c.install.new.self.history ≡ c.self.inside.registrar.history
history c = elim c.match-branch-3.branch [
  | in-Done w ↦ (c.in_ok-install.ensures.done (ap Ok w.in-Done.is)).history
  | in-Stale w ↦ ap (λ (r : RegistryState). r.history) (c.in_ok-install.ensures.unchanged (λ e. let stale =
      w.in-Stale.is in cc (e, stale)))
]

pub returns-clause-stand : goal.returns-clause-stand
returns-clause-stand c =
    let merges : map (λ m. m.0) c.remove.new.self.items
    ≡ filter (λ m. not (m == c.args.merge)) (map (λ m. m.0) c.self.inside.merges.items) =
    ap (map (λ m. m.0)) c.remove.ensures.items ∙ removed_numbers c.self.invariant.merges (there c) in
    let without : record {
      history = c.install.new.self.history;
      merges =
          map (λ m. m.0) c.remove.new.self.items;
      batches = c.self.inside.batches.items;
    }
    ≡ without_merge c.args.self.now c.args.merge =
    (λ i. record { history = history c i; merges = merges i; batches = c.self.inside.batches.items })
    ∙ ap (λ s. without_merge s c.args.merge) c.self.view_is in
    elim c.match-branch-3.branch [
      | in-Done w ↦ without ∙ sym
          (ap (λ a. after c.args.self.now (event.Install c.args.merge) (answer_of a)) w.answer-is)
      | in-Stale w ↦ without ∙ sym
          (ap (λ a. after c.args.self.now (event.Install c.args.merge) (answer_of a)) w.answer-is)
    ]
