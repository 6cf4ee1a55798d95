use Rattle.std.proofs.Common.{map, ap, ◌∙◌}
use Rattle.std.specs.Arc.{arc_str_bytes}
use Rattle.std.proofs.lemmas.Result.{IfOk-weaker}
use Rattle.clip_protocol.specs.Found.{found_value}
use Rattle.clip_protocol.specs.Reply.{matched, reply_text}
use Rattle.clip_protocol.specs.Steps.Views.{alerts_by_id}
use Rattle.clip_front.proofs.Found.{texts_of_notes}
use Rattle.clip_front.proofs.delivery.deliver.Goals as goal

pub returns-clause-text : goal.returns-clause-text
returns-clause-text g c =
    let said = ap (map (λ n. arc_str_bytes n.text)) c.deref.ensures.value ∙ texts_of_notes c.in_ok-notes.notes.items
    ∙ ap (map (λ n. n.text)) c.in_ok-notes.ensures.notes in
    IfOk-weaker c.found_text.result _ _ (λ text printed. printed
    ∙ ap (λ texts. reply_text c.args.number
    (matched c.args.books.now.settings.form (map alerts_by_id (map found_value c.args.found.now)) texts)) said)
    c.found_text.ensures
