use Rattle.std.proofs.Common.{◌≡◌, ◌++◌, ◌∙◌, Bool, List, OnErr, ℕ, ap, map, subst}
use Rattle.clip_model.specs.Alerts.{Alert}
use Rattle.clip_standing.specs.Alerts.{alert_value, alerts_value}
use Rattle.clip_stream.specs.Device.{AppendsFront}
use Rattle.clip_stream.proofs.Faults.{on_err}
use Rattle.clip_stream.proofs.Flows.{none_taken}
use Rattle.clip_protocol.specs.Reply.{article_data, query_ids}
use Rattle.clip_protocol.specs.Steps.Flowing.{item_text}
use Rattle.clip_stream.specs.declared.form.Form.{Form}
use Rattle.clip_protocol.proofs.Printed.{article-with_hits}
use Rattle.clip_protocol.proofs.put.put_alerts.Goals as goal

same_part : (form : Form) (later : Bool) (i j : List ℕ) (p q : List (List ℕ)) (a b : List Alert) → i ≡ j → p ≡ q → a ≡ b
    → item_text later (article_data form i p a) ≡ item_text later (article_data form j q b)
same_part form later i j p q a b same_id same_queries same_alerts =
    λ k. item_text later (article_data form (same_id k) (same_queries k) (same_alerts k))

pub returns-in_err-views-clause-front : goal.returns-in_err-views-clause-front
returns-in_err-views-clause-front g c = on_err _ (none_taken _ _)

pub returns-clause-front : goal.returns-clause-front
returns-clause-front g c =
    let ids = ap (map (λ id. id.now)) c.deref-2.ensures.value ∙ c.in_ok-queries.ensures
    ∙ ap (λ alerts. query_ids (map alert_value alerts)) c.deref.ensures.value in
    let alerts = (alerts_value c.args.alerts.now).alerts in
    let whole = same_part c.args.form c.args.later _ _ _ _ _ _ c.as_str.ensures.value ids
    (c.deref-3.ensures.value ∙ c.in_ok-views.ensures)
    ∙ ap (item_text c.args.later) (article-with_hits c.args.form _ (query_ids alerts) alerts) in
    let taken = g.W.Sink.taken in
    let P : List ℕ → Type 0 = λ t. OnErr c.put_part.result
    (AppendsFront (taken c.args.flow.now.writer.now) (taken c.put_part.new.flow.writer.now)
    (c.args.flow.now.outbox.now ++ t)) in
    subst P whole c.put_part.ensures.front
