use Rattle.std.proofs.Common.{◌≡◌, ◌∙◌, All, List, None, Option, ap, map, option_map, subst, sym}
use Rattle.clip_match.specs.Due.{due_value}
use Rattle.clip_model.specs.Alerts.{Alert}
use Rattle.clip_protocol.specs.Reply.{alerts_data, article_data, form_with, query_ids}
use Rattle.clip_protocol.specs.Steps.Views.{alerts_by_id}
use Rattle.clip_run.proofs.Quiet.{same_form, shown_unheard, unlistened}
use Rattle.clip_run.proofs.batch.found_of.Goals as goal

pub unmade-requires-clause-unheard : goal.unmade-requires-clause-unheard
unmade-requires-clause-unheard c =
    subst (λ v. All (λ a. a.listener ≡ None) v.alerts) (sym c.requires.said)
    (unlistened (due_value c.args.due).alerts (c.wants_alerts.ensures.unheard c.if-wants_alerts.false))

pub unmade-requires-clause-data : goal.unmade-requires-clause-data
unmade-requires-clause-data c =
    let form = c.args.settings.form in
    let due = due_value c.args.due in
    let ids = ap (map (λ id. id.now)) c.deref.ensures.value ∙ c.in_ok-queries.ensures in
    let views : Option (List Alert) = option_map (λ v. v.now) c.as_deref.result in
    let same = c.as_deref.ensures.value ∙ c.in_ok-views.ensures in
    shown_unheard form _ due.article _ views due.alerts c.article_id.ensures ids same
    ∙ ap (λ f. article_data f due.article (query_ids due.alerts) due.alerts)
    (sym (same_form form views due.alerts same))
    ∙ ap (λ v. alerts_data (form_with views) (alerts_by_id v)) (sym c.requires.said)
