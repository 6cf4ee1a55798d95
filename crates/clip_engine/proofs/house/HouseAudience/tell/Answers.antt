use Rattle.std.proofs.Common.{sym, ap, ◌∙◌, option_map, bytes_eq, codes}
use Rattle.std.specs.Arc.{arc_str_bytes}
use Rattle.std.specs.Option.{option_copied}
use Rattle.clip_stream.proofs.Faults.{on_err}
use Rattle.clip_standing.specs.Alerts.{alert_value}
use Rattle.clip_listen.specs.Heard.{style_value, note_value}
use Rattle.clip_listen.proofs.Hearing.{unnamed}
use Rattle.clip_engine.proofs.Telling.{both, mail_notes, feed_notes, mail_hears, feed_hears, mail_refused, feed_refused}
use Rattle.clip_engine.proofs.Telling.{none_hears}
use Rattle.clip_engine.proofs.house.HouseAudience.tell.Goals as goal

pub returns-in_default-clause-note : goal.returns-in_default-clause-note
returns-in_default-clause-note c =
    let h = c.args.self.now in
    sym (unnamed (alert_value c.args.alert.now)
    (both (style_value h.mail.render.style) h.mail.told.alerts (style_value h.feed.render.style)
    h.feed.told.alerts) (sym c.listener.ensures
    ∙ ap (λ o. option_map arc_str_bytes (option_copied o)) c.in_default.is)).1

pub returns-in_default-clause-ok : goal.returns-in_default-clause-ok
returns-in_default-clause-ok c =
    let h = c.args.self.now in
    sym (unnamed (alert_value c.args.alert.now)
    (both (style_value h.mail.render.style) h.mail.told.alerts (style_value h.feed.render.style)
    h.feed.told.alerts) (sym c.listener.ensures
    ∙ ap (λ o. option_map arc_str_bytes (option_copied o)) c.in_default.is)).0

pub returns-in_err-heard_by-clause-err : goal.returns-in_err-heard_by-clause-err
returns-in_err-heard_by-clause-err c =
    let h = c.args.self.now in let e = c.in_err-heard_by.ensures in let now = c.heard_by.new.listener in
    on_err _ (mail_refused (style_value h.mail.render.style) h.mail.told.alerts (style_value h.feed.render.style)
    h.feed.told.alerts (alert_value c.args.alert.now) (arc_str_bytes c.in-Some.name.now) (sym c.listener.ensures
    ∙ ap (λ o. option_map arc_str_bytes (option_copied o)) c.in-Some.is)
    (ap (λ t. bytes_eq t (codes "mail")) (sym c.as_str.ensures.value) ∙ sym c.eq.ensures
    ∙ c.if-eq.true) (style_value now.render.style) now.told.alerts e.style e.err)

pub returns-then-eq-clause-note : goal.returns-then-eq-clause-note
returns-then-eq-clause-note c =
    let h = c.args.self.now in let e = c.in_ok-heard_by.ensures in
    mail_notes (style_value h.mail.render.style) h.mail.told.alerts (style_value h.feed.render.style)
    h.feed.told.alerts (alert_value c.args.alert.now) (arc_str_bytes c.in-Some.name.now) (sym c.listener.ensures
    ∙ ap (λ o. option_map arc_str_bytes (option_copied o)) c.in-Some.is)
    (ap (λ t. bytes_eq t (codes "mail")) (sym c.as_str.ensures.value) ∙ sym c.eq.ensures
    ∙ c.if-eq.true) (note_value c.in_ok-heard_by.field-0) e.note

pub returns-then-eq-clause-ok : goal.returns-then-eq-clause-ok
returns-then-eq-clause-ok c =
    let h = c.args.self.now in let e = c.in_ok-heard_by.ensures in let now = c.heard_by.new.listener in
    mail_hears (style_value h.mail.render.style) h.mail.told.alerts (style_value h.feed.render.style)
    h.feed.told.alerts (alert_value c.args.alert.now) (arc_str_bytes c.in-Some.name.now) (sym c.listener.ensures
    ∙ ap (λ o. option_map arc_str_bytes (option_copied o)) c.in-Some.is)
    (ap (λ t. bytes_eq t (codes "mail")) (sym c.as_str.ensures.value) ∙ sym c.eq.ensures
    ∙ c.if-eq.true) (style_value now.render.style) now.told.alerts e.style e.ok

pub returns-in_err-heard_by-2-clause-err : goal.returns-in_err-heard_by-2-clause-err
returns-in_err-heard_by-2-clause-err c =
    let h = c.args.self.now in let e = c.in_err-heard_by-2.ensures in let now = c.heard_by-then-eq-2.new.listener in
    on_err _ (feed_refused (style_value h.mail.render.style) h.mail.told.alerts (style_value h.feed.render.style)
    h.feed.told.alerts (alert_value c.args.alert.now) (arc_str_bytes c.in-Some.name.now) (sym c.listener.ensures
    ∙ ap (λ o. option_map arc_str_bytes (option_copied o)) c.in-Some.is)
    (ap (λ t. bytes_eq t (codes "feed")) (sym c.as_str-2.ensures.value) ∙ sym c.eq-2.ensures
    ∙ c.if-eq-2.true) (style_value now.render.style) now.told.alerts e.style e.err)

pub returns-then-eq-2-clause-note : goal.returns-then-eq-2-clause-note
returns-then-eq-2-clause-note c =
    let h = c.args.self.now in let e = c.in_ok-heard_by-2.ensures in
    feed_notes (style_value h.mail.render.style) h.mail.told.alerts (style_value h.feed.render.style)
    h.feed.told.alerts (alert_value c.args.alert.now) (arc_str_bytes c.in-Some.name.now) (sym c.listener.ensures
    ∙ ap (λ o. option_map arc_str_bytes (option_copied o)) c.in-Some.is)
    (ap (λ t. bytes_eq t (codes "feed")) (sym c.as_str-2.ensures.value) ∙ sym c.eq-2.ensures
    ∙ c.if-eq-2.true) (note_value c.in_ok-heard_by-2.field-0) e.note

pub returns-then-eq-2-clause-ok : goal.returns-then-eq-2-clause-ok
returns-then-eq-2-clause-ok c =
    let h = c.args.self.now in let e = c.in_ok-heard_by-2.ensures in let now = c.heard_by-then-eq-2.new.listener in
    feed_hears (style_value h.mail.render.style) h.mail.told.alerts (style_value h.feed.render.style)
    h.feed.told.alerts (alert_value c.args.alert.now) (arc_str_bytes c.in-Some.name.now) (sym c.listener.ensures
    ∙ ap (λ o. option_map arc_str_bytes (option_copied o)) c.in-Some.is)
    (ap (λ t. bytes_eq t (codes "feed")) (sym c.as_str-2.ensures.value) ∙ sym c.eq-2.ensures
    ∙ c.if-eq-2.true) (style_value now.render.style) now.told.alerts e.style e.ok

pub returns-clause-note : goal.returns-clause-note
returns-clause-note c =
    let h = c.args.self.now in
    sym (none_hears (style_value h.mail.render.style) h.mail.told.alerts (style_value h.feed.render.style)
    h.feed.told.alerts (alert_value c.args.alert.now) (arc_str_bytes c.in-Some.name.now) (sym c.listener.ensures
    ∙ ap (λ o. option_map arc_str_bytes (option_copied o)) c.in-Some.is)
    (ap (λ t. bytes_eq t (codes "mail")) (sym c.as_str.ensures.value) ∙ sym c.eq.ensures
    ∙ c.if-eq.false) (ap (λ t. bytes_eq t (codes "feed")) (sym c.as_str-2.ensures.value) ∙ sym c.eq-2.ensures
    ∙ c.if-eq-2.false)).1

pub returns-clause-ok : goal.returns-clause-ok
returns-clause-ok c =
    let h = c.args.self.now in
    sym (none_hears (style_value h.mail.render.style) h.mail.told.alerts (style_value h.feed.render.style)
    h.feed.told.alerts (alert_value c.args.alert.now) (arc_str_bytes c.in-Some.name.now) (sym c.listener.ensures
    ∙ ap (λ o. option_map arc_str_bytes (option_copied o)) c.in-Some.is)
    (ap (λ t. bytes_eq t (codes "mail")) (sym c.as_str.ensures.value) ∙ sym c.eq.ensures
    ∙ c.if-eq.false) (ap (λ t. bytes_eq t (codes "feed")) (sym c.as_str-2.ensures.value) ∙ sym c.eq-2.ensures
    ∙ c.if-eq-2.false)).0
