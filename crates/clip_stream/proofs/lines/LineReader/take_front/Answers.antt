use Rattle.std.proofs.Common.{◌+◌, ◌-◌, ◌≤◌, sym, ap, ◌∙◌, ◌++◌, take, drop, arith, subst}
use Rattle.std.proofs.lemmas.List.{length-take, take_rest}
use Rattle.clip_stream.specs.Steps.Reading.{cut, after_line, IsFeedOf, has_feed}
use Rattle.clip_stream.proofs.Bytes.{later_pending, nothing_pending}
use Rattle.clip_stream.proofs.Cuts.{first_line-no_feed, after_line-no_feed}
use Rattle.clip_stream.proofs.lines.LineReader.take_front.Goals as goal

pub invariant_of-self : goal.invariant_of-self
invariant_of-self c =
    let s = c.self.inside.start in
    let e = c.self.inside.end in
    let n = c.in-Some.i + 1 in
    let inside = c.self.invariant in
    let whole = inside.1 in
    let size = inside.2 in
    let feeds = rw c.in-Some.is at inside.5 in
    let within = feeds.within in
    let fits : s + n ≤ e = omega (arith, simp length-take at within) in
    let found = rw c.deref.ensures.value at c.feed_of-self-inside.ensures in
    let searched = rw take_rest at found in (
      fits,
      whole,
      size,
      inside.3,
      λ at_end. let none = inside.4 at_end in omega (arith, none, simp length-take at within),
      subst (IsFeedOf c.feed_of-self-inside.result) (sym (later_pending c.self.inside.buffer.items s e n fits))
          searched,
    )

pub returns-in_ok-extend_cut-in-Some-clause-rest : goal.returns-in_ok-extend_cut-in-Some-clause-rest
returns-in_ok-extend_cut-in-Some-clause-rest c =
    let s = c.self.inside.start in
    let e = c.self.inside.end in
    let n = c.in-Some.i + 1 in
    let feeds = rw c.in-Some.is at c.self.invariant.5 in
    let within = feeds.within in
    let fits : s + n ≤ e = omega (arith, simp length-take at within) in
    later_pending c.self.inside.buffer.items s e n fits ∙ sym feeds.after
    ∙ ap (λ r. after_line r.pending) c.self.view_is

pub returns-in_ok-extend_cut-in-None-clause-line : goal.returns-in_ok-extend_cut-in-None-clause-line
returns-in_ok-extend_cut-in-None-clause-line c =
    let same = ap (λ xs. take (c.self.inside.end - c.self.inside.start) (drop c.self.inside.start xs))
    c.deref.ensures.value ∙ ap (λ r. r.pending) c.self.view_is in
    let none = rw c.in-None.is at c.self.invariant.5 in
    c.in_ok-extend_cut-in-None.ensures c.requires
    ∙ ap (λ xs. cut (c.args.line.now.items ++ xs)) (same
    ∙ sym (first_line-no_feed _ (sym (ap (λ r. has_feed r.pending) c.self.view_is) ∙ none)))

pub returns-in_ok-extend_cut-in-None-clause-rest : goal.returns-in_ok-extend_cut-in-None-clause-rest
returns-in_ok-extend_cut-in-None-clause-rest c =
    let none = rw c.in-None.is at c.self.invariant.5 in
    nothing_pending c.self.inside.buffer.items c.self.inside.end
    ∙ sym (after_line-no_feed
    (take (c.self.inside.end - c.self.inside.start) (drop c.self.inside.start c.self.inside.buffer.items)) none)
    ∙ ap (λ r. after_line r.pending) c.self.view_is
