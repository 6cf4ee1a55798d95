use Rattle.std.proofs.Common.{ap, subst, ◌∙◌}
use Rattle.std.proofs.lemmas.Result.{IfOk-weaker}
use Rattle.clip_front.specs.Steps.Taking.{Takes}
use Rattle.clip_front.specs.Outcome.{names_in}
use Rattle.clip_engine.specs.Engine.{house}
use Rattle.clip_engine.proofs.Answered.{if_ok, matched_at}
use Rattle.clip_engine.proofs.answer.answer.Goals as goal

pub returns-clause-answers : goal.returns-clause-answers
returns-clause-answers c =
    let old = c.args.owned.now.registrar.history in let new = c.take_line.new.registry.registrar.history in
    let taken = subst (λ t. Takes (names_in house) old new c.args.number c.args.line.now t) c.in-Match.is
    c.in_ok-text.ensures.taken in
    IfOk-weaker c.match_reply.result _ _
    (λ text printed. matched_at c.args.form c.args.number c.args.line.now text.items old new
    c.in_ok-view-in-Match.view.history c.deref-in-Match.result.now c.in-Match.drafts.items taken
    (ap (λ s. s.history) c.in_ok-view-in-Match.ensures)
    (c.deref-in-Match.ensures.value ∙ c.in_ok-articles-in-Match.ensures ∙ c.deref.ensures.value) printed)
    c.match_reply.ensures

pub returns-clause-purges : goal.returns-clause-purges
returns-clause-purges c = if_ok c.match_reply.result c.in_ok-text.ensures.purged
