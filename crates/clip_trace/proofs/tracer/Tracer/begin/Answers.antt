use Rattle.std.proofs.Common.{◌≡◌, ◌<◌, ◌≤◌, ◌++◌, ◌∷◌, [], eqb, refl, sym, ap, subst, ◌∙◌, inl, inr, map, length}
use Rattle.std.proofs.Common.{arith}
use Rattle.std.specs.List.{IsDistinct}
use Rattle.std.proofs.lemmas.Bool.{le-leb, lt-leb}
use Rattle.std.proofs.lemmas.List.{length-map, map-append}
use Rattle.clip_trace.specs.Event as event
use Rattle.clip_trace.specs.Schedule.{IsDueTo}
use Rattle.clip_trace.specs.Steps.Tracer.{tracer_inside}
use Rattle.clip_trace.proofs.Numbered.{any_is, distinct_push}
use Rattle.clip_trace.proofs.Refusals.{due_used, due_too_many, due_done}
use Rattle.clip_trace.proofs.tracer.Tracer.begin.Goals as goal

pub returns-then-is_some-clause-due : goal.returns-then-is_some-clause-due
returns-then-is_some-clause-due c =
    let used = any_is c.args.merge _ _ _ c.deref.ensures.value c.place_of.ensures ∙ sym c.is_some.ensures
    ∙ c.if-is_some.true in
    subst (λ s. IsDueTo s (event.Begin c.args.merge) event.Used) c.self.view_is
    (due_used (tracer_inside c.self.inside) (event.Begin c.args.merge) refl used)

pub returns-then-len-ge-MOST_MERGES-clause-due : goal.returns-then-len-ge-MOST_MERGES-clause-due
returns-then-len-ge-MOST_MERGES-clause-due c =
    let free = any_is c.args.merge _ _ _ c.deref.ensures.value c.place_of.ensures ∙ sym c.is_some.ensures
    ∙ c.if-is_some.false in
    let many : 16 ≤ length (map (λ m. m.0) c.self.inside.merges.items) = let a =
    length-map c.self.inside.merges.items (λ m. m.0) in let b = c.self.inside.merges.ok.0 in omega arith in
    subst (λ s. IsDueTo s (event.Begin c.args.merge) event.TooMany) c.self.view_is
    (due_too_many (tracer_inside c.self.inside) (event.Begin c.args.merge) refl free (le-leb _ _ many))

pub returns-in_default-clause-due : goal.returns-in_default-clause-due
returns-in_default-clause-due c =
    let free = any_is c.args.merge _ _ _ c.deref.ensures.value c.place_of.ensures ∙ sym c.is_some.ensures
    ∙ c.if-is_some.false in
    let few : length (map (λ m. m.0) c.self.inside.merges.items) < 16 = let a =
    length-map c.self.inside.merges.items (λ m. m.0) in let b = c.self.inside.merges.ok.0 in omega arith in
    subst (λ s. IsDueTo s (event.Begin c.args.merge) event.Nothing) c.self.view_is
    (due_done (tracer_inside c.self.inside) (event.Begin c.args.merge) event.Nothing refl free (lt-leb _ _ few) refl
    (inr refl))

pub invariant_of-self-2 : goal.invariant_of-self-2
invariant_of-self-2 c =
    let free = any_is c.args.merge _ _ _ c.deref.ensures.value c.place_of.ensures ∙ sym c.is_some.ensures
    ∙ c.if-is_some.false in
    let one_more : map (λ m. m.0) c.push.new.self.items ≡ map (λ m. m.0) c.self.inside.merges.items ++ c.args.merge
    ∷ [] = ap (map (λ m. m.0)) c.in_ok-push.ensures.items ∙ map-append (λ m. m.0) c.self.inside.merges.items _ in
    record {
      merges = subst (IsDistinct eqb) (sym one_more)
          (distinct_push c.args.merge _ c.self.invariant.merges free);
      batches = c.self.invariant.batches;
    }

pub returns-clause-due : goal.returns-clause-due
returns-clause-due c =
    let free = any_is c.args.merge _ _ _ c.deref.ensures.value c.place_of.ensures ∙ sym c.is_some.ensures
    ∙ c.if-is_some.false in
    let few : length (map (λ m. m.0) c.self.inside.merges.items) < 16 = let a =
    length-map c.self.inside.merges.items (λ m. m.0) in let b = c.self.inside.merges.ok.0 in omega arith in
    subst (λ s. IsDueTo s (event.Begin c.args.merge) event.Begun) c.self.view_is
    (due_done (tracer_inside c.self.inside) (event.Begin c.args.merge) event.Begun refl free (lt-leb _ _ few) refl
    (inl refl))
