use Rattle.std.proofs.Common.{◌≡◌, ◌+◌, false, not, Option, Some, None, is_some, refl, sym, ap, subst, ◌∙◌, map, set}
use Rattle.clip_trace.specs.Event as event
use Rattle.clip_trace.specs.Schedule.{Batch, IsDueTo, is_unmatched, with_matched, matched_more}
use Rattle.clip_trace.specs.Steps.Tracer.{tracer_inside}
use Rattle.clip_trace.proofs.Numbered.{lookup_is, Stands, stands, looked_up, changed, changed_distinct}
use Rattle.clip_trace.proofs.Refusals.{due_unknown, due_done}
use Rattle.clip_trace.proofs.Schedules.{with_batches}
use Rattle.clip_trace.proofs.tracer.Tracer.piece.Goals as goal

none_unmatched : (b : Option Batch) → is_some b ≡ false → is_unmatched b ≡ false
none_unmatched None h = refl
none_unmatched (Some b) h = cc

pub returns-in_default-clause-due : goal.returns-in_default-clause-due
returns-in_default-clause-due c =
    let unknown = lookup_is c.args.batch _ _ _ c.deref.ensures.value c.place_of.ensures ∙ ap is_some c.in_default.is in
    subst (λ s. IsDueTo s (event.Piece c.args.batch) event.Unknown) c.self.view_is
    (due_unknown (tracer_inside c.self.inside) (event.Piece c.args.batch) (ap not (none_unmatched _ unknown)))

pub returns-then-not-is_unmatched-clause-due : goal.returns-then-not-is_unmatched-clause-due
returns-then-not-is_unmatched-clause-due c =
    let there = stands c.args.batch c.in-Some.place c.index.result.now c.self.inside.batches.items _ _
    c.deref.ensures.value c.place_of.ensures c.in-Some.is c.index.ensures in
    let matched = ap is_unmatched (looked_up c.self.invariant.batches there) ∙ sym c.is_unmatched.ensures
    ∙ c.if-not-is_unmatched.true in
    subst (λ s. IsDueTo s (event.Piece c.args.batch) event.Unknown) c.self.view_is
    (due_unknown (tracer_inside c.self.inside) (event.Piece c.args.batch) (ap not matched))

pub returns-clause-due : goal.returns-clause-due
returns-clause-due c =
    let there = stands c.args.batch c.in-Some.place c.index.result.now c.self.inside.batches.items _ _
    c.deref.ensures.value c.place_of.ensures c.in-Some.is c.index.ensures in
    let unmatched = ap is_unmatched (looked_up c.self.invariant.batches there) ∙ sym c.is_unmatched.ensures
    ∙ c.if-not-is_unmatched.false in
    subst (λ s. IsDueTo s (event.Piece c.args.batch) event.Matched) c.self.view_is
    (due_done (tracer_inside c.self.inside) (event.Piece c.args.batch) event.Matched (ap not unmatched) refl refl refl
    refl)

there : (c : goal.In_ok-match_next)
    → Stands c.args.batch c.in-Some.place c.index_mut.result.now c.self.inside.batches.items
there c = stands c.args.batch c.in-Some.place c.index_mut.result.now c.self.inside.batches.items _ _
    c.deref.ensures.value c.place_of.ensures c.in-Some.is c.index_mut.ensures.value

pub invariant_of-self-2 : goal.invariant_of-self-2
invariant_of-self-2 c = record {
  merges = c.self.invariant.merges;
  batches =
      changed_distinct c.self.invariant.batches (there c) c.match_next.new.self;
}

pub returns-clause-stand : goal.returns-clause-stand
returns-clause-stand c =
    let x = c.index_mut.result.now in
    let batches : set c.self.inside.batches.items c.in-Some.place (x.0, c.match_next.new.self)
    ≡ map (matched_more c.args.batch) c.self.inside.batches.items =
    ap (λ b. set c.self.inside.batches.items c.in-Some.place (x.0, b)) c.in_ok-match_next.ensures.matched
    ∙ changed c.self.invariant.batches (there c) (λ b. with_matched b (b.matched + 1)) in
    with_batches (map (matched_more c.args.batch)) _ (tracer_inside c.self.inside) _ batches c.self.view_is
