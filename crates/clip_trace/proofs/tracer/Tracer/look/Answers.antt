use Rattle.std.proofs.Common.{◌≡◌, ◌<◌, ◌≤◌, ◌++◌, ◌∷◌, [], Bool, false, true, ◌||◌, eqb, refl, sym, ap, subst, ◌∙◌}
use Rattle.std.proofs.Common.{map, length, nat_le, nat_lt, arith}
use Rattle.std.specs.List.{IsDistinct}
use Rattle.std.proofs.lemmas.Bool.{le-leb, lt-leb, lt-ltb, le-ltb}
use Rattle.std.proofs.lemmas.List.{map-append}
use Rattle.clip_trace.specs.Event as event
use Rattle.clip_trace.specs.Schedule.{IsDueTo}
use Rattle.clip_trace.specs.Steps.Tracer.{tracer_inside}
use Rattle.clip_trace.proofs.Numbered.{any_is, lookup_is, distinct_push}
use Rattle.clip_trace.proofs.Refusals.{due_used, due_too_many, due_done}
use Rattle.clip_trace.proofs.tracer.Tracer.look.Goals as goal

pub returns-then-is_some-clause-due : goal.returns-then-is_some-clause-due
returns-then-is_some-clause-due c =
    let used = lookup_is c.args.batch _ _ _ c.deref.ensures.value c.place_of.ensures ∙ sym c.is_some.ensures
    ∙ c.if-is_some.true in
    subst (λ s. IsDueTo s (event.Look c.args.batch c.args.articles.items) event.Used) c.self.view_is
    (due_used (tracer_inside c.self.inside) (event.Look c.args.batch c.args.articles.items) refl used)

or_true : (b : Bool) → (b || true) ≡ true
or_true true = refl
or_true false = refl

pub returns-then-len-ge-MOST_BATCHES-clause-due : goal.returns-then-len-ge-MOST_BATCHES-clause-due
returns-then-len-ge-MOST_BATCHES-clause-due c =
    let free = lookup_is c.args.batch _ _ _ c.deref.ensures.value c.place_of.ensures ∙ sym c.is_some.ensures
    ∙ c.if-is_some.false in
    let over : (nat_le 32 (length c.self.inside.batches.items) || nat_lt 256 (length c.args.articles.items)) ≡ true =
    elim c.then-len-ge-MOST_BATCHES.branch [
      | goal.then-len-ge-MOST_BATCHES-via-then-len-ge-MOST_BATCHES w ↦
          let many : 32 ≤ length c.self.inside.batches.items = let b = c.self.inside.batches.ok.0 in omega arith in
          ap (λ b. b || nat_lt 256 (length c.args.articles.items)) (le-leb _ _ many)
      | goal.then-len-ge-MOST_BATCHES-via-else-len-ge-MOST_BATCHES+then-len-gt-MOST_ARTICLES w ↦
          let long : 256 < length c.args.articles.items = let b = c.args.articles.ok.0 in omega arith in
          ap (λ b. nat_le 32 (length c.self.inside.batches.items) || b) (lt-ltb _ _ long) ∙ or_true _
    ] in
    subst (λ s. IsDueTo s (event.Look c.args.batch c.args.articles.items) event.TooMany) c.self.view_is
    (due_too_many (tracer_inside c.self.inside) (event.Look c.args.batch c.args.articles.items) refl free over)

pub invariant_of-self-2 : goal.invariant_of-self-2
invariant_of-self-2 c =
    let free = any_is c.args.batch _ _ _ c.deref.ensures.value c.place_of.ensures ∙ sym c.is_some.ensures
    ∙ c.if-is_some.false in
    let one_more : map (λ b. b.0) c.push.new.self.items ≡ map (λ b. b.0) c.self.inside.batches.items ++ c.args.batch
    ∷ [] = ap (map (λ b. b.0)) c.in_ok-push.ensures.items ∙ map-append (λ b. b.0) c.self.inside.batches.items _ in
    record {
      merges = c.self.invariant.merges;
      batches =
          subst (IsDistinct eqb) (sym one_more) (distinct_push c.args.batch _ c.self.invariant.batches free);
    }

pub returns-clause-due : goal.returns-clause-due
returns-clause-due c =
    let free = lookup_is c.args.batch _ _ _ c.deref.ensures.value c.place_of.ensures ∙ sym c.is_some.ensures
    ∙ c.if-is_some.false in
    let few : length c.self.inside.batches.items < 32 = let b = c.self.inside.batches.ok.0 in omega arith in
    let short : length c.args.articles.items ≤ 256 = let b = c.args.articles.ok.0 in omega arith in
    let within : (nat_le 32 (length c.self.inside.batches.items) || nat_lt 256 (length c.args.articles.items)) ≡ false =
    ap (λ b. b || nat_lt 256 (length c.args.articles.items)) (lt-leb _ _ few) ∙ le-ltb _ _ short in
    subst (λ s. IsDueTo s (event.Look c.args.batch c.args.articles.items) event.Looked) c.self.view_is
    (due_done (tracer_inside c.self.inside) (event.Look c.args.batch c.args.articles.items) event.Looked refl free
    within refl refl)
