use Rattle.std.proofs.Common.{sym, refl, ap, ◌∙◌, option_map, arith}
use Rattle.std.specs.Option.{option_copied}
use Rattle.std.proofs.lemmas.Grind.{common_steps}
use Rattle.clip_standing.specs.Alerts.{alert_value}
use Rattle.clip_listen.proofs.Hearing.{unnamed}
use Rattle.std.specs.Arc.{arc_str_bytes}
use Rattle.clip_listen.proofs.Parts.{not_here}
use Rattle.clip_listen.proofs.listeners.ListenersAudience.tell.Goals as goal

pub returns-in_default-clause-note : goal.returns-in_default-clause-note
returns-in_default-clause-note g c =
    sym (unnamed (alert_value c.args.alert.now) _ (sym c.listener.ensures
    ∙ ap (λ o. option_map arc_str_bytes (option_copied o)) c.in_default.is)).1

pub returns-in_default-clause-ok : goal.returns-in_default-clause-ok
returns-in_default-clause-ok g c =
    sym (unnamed (alert_value c.args.alert.now) _ (sym c.listener.ensures
    ∙ ap (λ o. option_map arc_str_bytes (option_copied o)) c.in_default.is)).0

pub returns-in_default-place-clause-note : goal.returns-in_default-place-clause-note
returns-in_default-place-clause-note g c =
    sym (not_here _ (λ _. refl) (alert_value c.args.alert.now) _ _ c.args.self.now.parts.items
    (sym (ap (λ o. option_map arc_str_bytes (option_copied o)) c.in-Some.is)
    ∙ c.listener.ensures) c.as_str.ensures.value c.in_default-place.ensures).1

pub returns-in_default-place-clause-ok : goal.returns-in_default-place-clause-ok
returns-in_default-place-clause-ok g c =
    sym (not_here _ (λ _. refl) (alert_value c.args.alert.now) _ _ c.args.self.now.parts.items
    (sym (ap (λ o. option_map arc_str_bytes (option_copied o)) c.in-Some.is)
    ∙ c.listener.ensures) c.as_str.ensures.value c.in_default-place.ensures).0

-- Answered here, so that a wrong body is refused at once.
pub returns-clause-note : goal.returns-clause-note
returns-clause-note g c = grind (arith, common_steps)

pub returns-clause-ok : goal.returns-clause-ok
returns-clause-ok g c = grind (arith, common_steps)
