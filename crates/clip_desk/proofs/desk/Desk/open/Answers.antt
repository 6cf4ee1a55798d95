use Rattle.std.proofs.Common.{◌∙◌, List, ap, sym, subst}
use Rattle.clip_model.specs.History.{History}
use Rattle.clip_desk.specs.Updates.{Event, AllFollow, all_heard}
use Rattle.clip_desk.proofs.Following.{all_follow_first}
use Rattle.clip_desk.proofs.Seating.{seated_of}
use Rattle.clip_desk.proofs.desk.Desk.open.Goals as goal

pub returns-clause-all : goal.returns-clause-all
returns-clause-all g c =
    let p = c.parts.inside in
    seated_of p.tag p.callers g.N.DeskName.callers p.registrar.keeps p.seen_history.seen.book g.N.DeskName.book
    p.seats.items c.parts.invariant.2 (ap (λ x. x.book) c.parts.view_is
    ∙ c.requires.0) (ap (λ x. x.callers) c.parts.view_is ∙ c.requires.1)

pub returns-clause-keeps : goal.returns-clause-keeps
returns-clause-keeps g c k s at = ap (λ x. x.keeps) (c.parts.invariant.2.each k s at)
    ∙ (ap (λ x. x.keeps) c.parts.view_is ∙ c.requires.3)

pub new-requires-clause-follow : goal.new-requires-clause-follow
new-requires-clause-follow g c =
    let p = c.parts.inside in
    let heard = ap all_heard (ap (λ x. x.updates) c.parts.view_is) ∙ sym c.requires.2 in
    subst (λ (before : List (List Event)). AllFollow before p.registrar.history 0 p.updates) heard
    (subst (λ (h : History). AllFollow (all_heard p.updates) h 0 p.updates) (sym c.parts.invariant.1)
    (all_follow_first p.updates))
