use Rattle.std.proofs.Common.{◌≡◌, ◌==◌, not, eqb, is_some, refl, sym, ap, subst, ◌∙◌, map, take, length}
use Rattle.std.specs.List.{IsDistinct, filter, remove}
use Rattle.std.proofs.Math.Nat.{le_refl}
use Rattle.std.proofs.lemmas.List.{take_all}
use Rattle.clip_standing.specs.Alerts.{alerts_value}
use Rattle.clip_trace.specs.Event as event
use Rattle.clip_trace.specs.Event.{found_of, found_after}
use Rattle.clip_trace.specs.Schedule.{Batch, IsDueTo, with_matched}
use Rattle.clip_trace.specs.Steps.Tracer.{tracer_inside}
use Rattle.clip_trace.proofs.Numbered.{lookup_is, Stands, stands, looked_up, removed, removed_distinct, changed_removed}
use Rattle.clip_trace.proofs.Numbered.{changed_there}
use Rattle.clip_trace.proofs.Refusals.{due_unknown, due_done}
use Rattle.clip_trace.proofs.Schedules.{with_batches}
use Rattle.clip_trace.proofs.tracer.Tracer.finish.Goals as goal

pub returns-in_default-clause-due : goal.returns-in_default-clause-due
returns-in_default-clause-due c =
    let unknown = lookup_is c.args.batch _ _ _ c.deref.ensures.value c.place_of.ensures ∙ ap is_some c.in_default.is in
    subst (λ s. IsDueTo s (event.Finish c.args.batch) event.Unknown) c.self.view_is
    (due_unknown (tracer_inside c.self.inside) (event.Finish c.args.batch) (ap not unknown))

there : (c : goal.After-into_found)
    → Stands c.args.batch c.in-Some.place c.index_mut.result.now c.self.inside.batches.items
there c = stands c.args.batch c.in-Some.place c.index_mut.result.now c.self.inside.batches.items _ _
    c.deref.ensures.value c.place_of.ensures c.in-Some.is c.index_mut.ensures.value

-- the batch is gone
without : (c : goal.After-into_found) → c.remove-finished.new.self.items
    ≡ remove c.self.inside.batches.items c.in-Some.place
without c = c.remove-finished.ensures.items ∙ changed_removed c.self.invariant.batches (there c) c.match_rest.new.self

pub invariant_of-self-2 : goal.invariant_of-self-2
invariant_of-self-2 c = record {
  merges = c.self.invariant.merges;
  batches = subst (λ bs. IsDistinct eqb (map (λ b. b.0) bs)) (sym (without c))
      (removed_distinct c.self.invariant.batches (there c));
}

-- the batch that was taken out is the open one, with all its articles matched
finished : (c : goal.After-into_found)
    → c.remove-finished.result.1 ≡ with_matched c.index_mut.result.now.1 (length c.index_mut.result.now.1.articles)
finished c = ap (λ b. b.1)
    (changed_there c.self.invariant.batches (there c) c.match_rest.new.self c.remove-finished.result
    c.remove-finished.ensures.value) ∙ c.in_ok-match_rest.ensures.matched

pub returns-clause-due : goal.returns-clause-due
returns-clause-due c =
    let batch : Batch = c.index_mut.result.now.1 in
    let found : map (λ a. found_of (alerts_value a)) c.into_found.result.items
    ≡ map (found_after batch.history) batch.articles =
    c.into_found.ensures ∙ ap (λ (b : Batch). map (found_after b.history) (take b.matched b.articles)) (finished c)
    ∙ ap (map (found_after batch.history))
    (take_all (length batch.articles) batch.articles (le_refl (length batch.articles))) in
    let known = lookup_is c.args.batch _ _ _ c.deref.ensures.value c.place_of.ensures ∙ ap is_some c.in-Some.is in
    subst (λ s. IsDueTo s (event.Finish c.args.batch)
    (event.Finished (map (λ a. found_of (alerts_value a)) c.into_found.result.items))) c.self.view_is
    (due_done (tracer_inside c.self.inside) (event.Finish c.args.batch) _ (ap not known) refl refl refl (
      batch,
      looked_up c.self.invariant.batches (there c),
      ap event.Finished found,
    ))

pub returns-clause-stand : goal.returns-clause-stand
returns-clause-stand c =
    with_batches (filter (λ b. not (b.0 == c.args.batch))) c.remove-finished.new.self.items
    (tracer_inside c.self.inside) _ (without c ∙ removed c.self.invariant.batches (there c)) c.self.view_is
