use Rattle.std.proofs.Common.{map, sym, ap, ◌∙◌}
use Rattle.clip_listen.specs.Heard.{told_all, note_value, notes_of}
use Rattle.clip_protocol.specs.Found.{found_value}
use Rattle.clip_front.proofs.Unheard.{unheard}
use Rattle.clip_front.proofs.delivery.deliver_one.Goals as goal

-- nobody hears the alerts that are shown already
pub returns-in-Shown-clause-notes : goal.returns-in-Shown-clause-notes
returns-in-Shown-clause-notes g c =
    let hearers = g.A.Audience.hearers c.args.audience.now in
    let shown = c.in-Shown.field-0 in
    ap (map note_value) c.new.ensures.items
    ∙ sym (unheard _ hearers shown.unheard).1
    ∙ ap (λ found. notes_of hearers (found_value found).alerts) (sym c.in-Shown.is)

pub returns-in-Shown-clause-heard : goal.returns-in-Shown-clause-heard
returns-in-Shown-clause-heard g c =
    let hearers = g.A.Audience.hearers c.args.audience.now in
    let shown = c.in-Shown.field-0 in
    sym (unheard _ hearers shown.unheard).0
    ∙ ap (λ found. told_all (found_value found).alerts hearers) (sym c.in-Shown.is)
