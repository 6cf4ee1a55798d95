use Rattle.std.proofs.Common.{◌<◌, ◌∙◌, ap, arith, length, refl}
use Rattle.clip_listen.proofs.Hearing.{no_front}
use Rattle.clip_match.specs.Alerts.{alerts_due}
use Rattle.clip_front.proofs.Giving.{gives_front}
use Rattle.clip_run.proofs.Sharing.{gives_due}
use Rattle.clip_run.proofs.giver.Giver.match_here.Goals as goal

pub returns-in_err-read-clause-gives : goal.returns-in_err-read-clause-gives
returns-in_err-read-clause-gives g c =
    let batch = c.args.batch.now in
    let draft = c.index-draft.result.now in
    let within : c.args.article < length batch.drafts.items =
    omega (arith, c.requires, c.args.batch.now.drafts.ok.0) in
    gives_due batch.view batch.drafts.items c.args.article draft (alerts_due batch.view draft) _ _ _ within
    c.index-draft.ensures refl (gives_front _ _ _ _ c.from_residual.ensures.1 refl refl refl (no_front _ _))

pub returns-in_err-due-clause-gives : goal.returns-in_err-due-clause-gives
returns-in_err-due-clause-gives g c =
    let batch = c.args.batch.now in
    let draft = c.index-draft.result.now in
    let within : c.args.article < length batch.drafts.items =
    omega (arith, c.requires, c.args.batch.now.drafts.ok.0) in
    gives_due batch.view batch.drafts.items c.args.article draft (alerts_due batch.view draft) _ _ _ within
    c.index-draft.ensures refl (gives_front _ _ _ _ c.from_residual-in_err-due.ensures.1 refl refl refl (no_front _ _))

pub returns-clause-gives : goal.returns-clause-gives
returns-clause-gives g c =
    let batch = c.args.batch.now in
    let draft = c.index-draft.result.now in
    let within : c.args.article < length batch.drafts.items =
    omega (arith, c.requires, c.args.batch.now.drafts.ok.0) in
    gives_due batch.view batch.drafts.items c.args.article draft _ _ _ _ within c.index-draft.ensures
    (c.in_ok-due.ensures.due ∙ ap (alerts_due batch.view) c.in_ok-read.ensures) c.answer_article.ensures.gives
