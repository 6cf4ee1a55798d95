use Rattle.std.proofs.Common.{◌∙◌, ap, subst}
use Rattle.std.proofs.lemmas.Result.{IfOk-weaker}
use Rattle.clip_desk.specs.Purges.{IsPurgedAt}
use Rattle.clip_desk.proofs.Commits.{both_ok}
use Rattle.clip_run.proofs.OnlyCaller.{looked}
use Rattle.clip_run.proofs.caller.Caller.look.Goals as goal

pub returns-clause-view : goal.returns-clause-view
returns-clause-view g c =
    let i = c.self.invariant in
    both_ok _ _ _ c.look.result c.look.ensures.mine c.look.ensures.legal
    (λ v mine legal. looked v.history c.self.inside.seat.callers c.self.inside.seat.caller c.self.inside.seat.mine
    legal.0 legal.1 i.alone i.first mine ∙ ap (λ c. c.history) c.self.view_is)

pub returns-clause-purged : goal.returns-clause-purged
returns-clause-purged g c =
    IfOk-weaker c.look.result _ _ (λ v is. subst (IsPurgedAt v) (ap (λ c. c.purged_at) c.self.view_is) is)
    c.look.ensures.purged
