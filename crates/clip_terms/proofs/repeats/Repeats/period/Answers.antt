use Rattle.std.proofs.Common.{◌≡◌, ◌<◌, ◌≤◌, ◌+◌, take, get_or, arith, sym, subst}
use Rattle.std.proofs.lemmas.List.{get_or-take, length-take-le}
use Rattle.clip_terms.specs.declared.repeats.Span.{Span}
use Rattle.clip_terms.specs.Steps.Repeats.{Returns, NoneBelow}
use Rattle.clip_terms.proofs.Repeating.{in_span}
use Rattle.clip_terms.proofs.repeats.Repeats.period.Goals as goal

pub returns-then-length-span : goal.returns-then-length-span
returns-then-length-span c =
    let r = c.args.self.now in
    let n = c.args.length in
    let none : Span = record { period = 0; from = 0; upto = 0 } in
    let i = c.loop-span.span-index in
    let inside : i < r.count = omega (arith, length-take-le r.count r.spans c.requires.repeats.few) in
    let span = get_or r.spans i none in
    let same : get_or (take r.count r.spans) i none ≡ span = get_or-take r.count r.spans i none inside in
    subst (λ (s : Span). (0 < s.period) × (s.period + s.period ≤ n) × Returns r.run.now s.period n
    × NoneBelow r.run.now s.period n) (sym same)
    (in_span r.run.now span n (c.requires.repeats.spans i none inside)
    (subst (λ (s : Span). s.from ≤ n) same c.if-span-length.true)
    (subst (λ (s : Span). n ≤ s.upto) same c.if-length-span.true))
