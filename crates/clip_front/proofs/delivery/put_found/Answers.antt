use Rattle.std.proofs.Common.{◌++◌, OnErr, sym, subst}
use Rattle.clip_stream.specs.Device.{AppendsFront}
use Rattle.clip_protocol.specs.Found.{found_value}
use Rattle.clip_protocol.specs.Reply.{alerts_data}
use Rattle.clip_protocol.specs.Steps.Flowing.{item_text}
use Rattle.clip_protocol.specs.Steps.Views.{alerts_by_id}
use Rattle.clip_front.specs.Steps.Found.{IsFor}
use Rattle.clip_front.proofs.delivery.put_found.Goals as goal

pub returns-in-Alerts-clause-front : goal.returns-in-Alerts-clause-front
returns-in-Alerts-clause-front g c =
    let taken = g.W.Sink.taken in
    subst
    (λ found. OnErr c.put_alerts.result
    (AppendsFront (taken c.args.flow.now.writer.now) (taken c.put_alerts.new.flow.writer.now)
    (c.args.flow.now.outbox.now
    ++ item_text c.args.later (alerts_data c.args.settings.form (alerts_by_id (found_value found))))))
    (sym c.in-Alerts.is) c.put_alerts.ensures.front

-- its text is of the form of the settings
pub returns-in-Shown-clause-front : goal.returns-in-Shown-clause-front
returns-in-Shown-clause-front g c =
    let taken = g.W.Sink.taken in
    let shown = c.in-Shown.shown in
    let fit = subst (IsFor c.args.settings) c.in-Shown.is c.requires in
    subst
    (λ found. OnErr c.put_article_text.result
    (AppendsFront (taken c.args.flow.now.writer.now) (taken c.put_article_text.new.flow.writer.now)
    (c.args.flow.now.outbox.now
    ++ item_text c.args.later (alerts_data c.args.settings.form (alerts_by_id (found_value found))))))
    (sym c.in-Shown.is)
    (subst
    (λ form. OnErr c.put_article_text.result
    (AppendsFront (taken c.args.flow.now.writer.now) (taken c.put_article_text.new.flow.writer.now)
    (c.args.flow.now.outbox.now
    ++ item_text c.args.later (alerts_data form (alerts_by_id shown.alerts.value)))))
    fit.0 c.put_article_text.ensures.front)
