use Rattle.std.proofs.Common.{All, ap, ◌∙◌, map, subst, sym}
use Rattle.std.proofs.lemmas.Result.{IfOk-weaker}
use Rattle.clip_listen.specs.Heard.{style_value}
use Rattle.clip_protocol.specs.Found.{found_value}
use Rattle.clip_front.specs.Steps.Found.{IsFor, found_text}
use Rattle.clip_run.proofs.Found.{text-alerts_due}
use Rattle.clip_engine.specs.Engine.{house}
use Rattle.clip_engine.proofs.Telling.{both}
use Rattle.clip_engine.proofs.answer.match_reply.Goals as goal

pub deliver-requires : goal.deliver-requires
deliver-requires c =
    let settings = c.new-books.result.settings in
    subst (All (IsFor settings)) (sym c.deref.ensures.value) (c.in_ok-found.ensures.any settings)

pub returns : goal.returns
returns c =
    let form = c.args.form in let n = c.args.number in let found = map found_value c.deref.result.now in let l =
    c.args.listeners.now in
    IfOk-weaker c.deliver.result _ _
    (λ text printed.
    printed ∙ ap (λ s. found_text s.form
    (both (style_value l.mail.render.style) l.mail.told.alerts (style_value l.feed.render.style)
    l.feed.told.alerts) n found) (c.new-books.ensures.settings ∙ c.settings_of-settings.ensures)
    ∙ ap (λ hearers. found_text form hearers n found) c.requires
    ∙ ap (found_text form house n) (ap (map found_value) c.deref.ensures.value ∙ c.in_ok-found.ensures.value)
    ∙ text-alerts_due form house n c.args.view.now c.args.articles.now)
    c.deliver.ensures.text
