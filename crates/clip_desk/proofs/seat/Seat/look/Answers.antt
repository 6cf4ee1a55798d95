use Rattle.std.proofs.Common.{◌≡◌, ◌∙◌, ◌≤◌, ap, arith, rules}
use Rattle.left_right.specs.Sides.{view}
use Rattle.clip_desk.specs.Ends.{seen_keeps}
use Rattle.clip_desk.proofs.Purges.{purged_before}
use Rattle.clip_desk.proofs.seat.Seat.look.Goals as goal

pub invariant_of-self : goal.invariant_of-self
invariant_of-self g c =
    let i = c.self.invariant in
    (c.read_here-answer.ensures.kept.of _ _ i.0, i.1, i.2, i.3, i.4, i.5)

pub returns-in_default-clause-same : goal.returns-in_default-clause-same
returns-in_default-clause-same g c =
    let s = c.self.inside in
    let keeps : seen_keeps (view c.read_here-answer.new.end.place) ≡ c.args.self.now.keeps =
    c.read_here-answer.ensures.kept.keeps _ _ c.self.invariant.0 ∙ ap (λ v. v.keeps) c.self.view_is in
    λ i. record {
      tag = (c.self.view_is i).tag;
      caller = (c.self.view_is i).caller;
      callers = (c.self.view_is i).callers;
      keeps = keeps i;
      book = (c.self.view_is i).book;
      seen = s.seen_history.seen.log;
      mine = (c.self.view_is i).mine;
      purged_at = (c.self.view_is i).purged_at;
      purges = (c.self.view_is i).purges;
    }

pub returns-clause-purged : goal.returns-clause-purged
returns-clause-purged g c =
    let shown = c.shown.inside in
    let mine = ap (λ v. v.purged_at) c.self.view_is in
    let kept : c.args.self.now.purged_at ≤ shown.purged_at = omega (arith, mine, c.if-purged_at-self.false) in
    purged_before shown.view c.args.self.now.purged_at shown.purged_at kept c.shown.invariant.2

pub returns-then-there-made-clause-later : goal.returns-then-there-made-clause-later
returns-then-there-made-clause-later g c = search rules
