use Rattle.std.proofs.Common.{◌≡◌, IfOk, List, ℕ, map, subst}
use Rattle.std.specs.Arc.{arc_str_bytes}
use Rattle.clip_protocol.specs.Found.{found_value}
use Rattle.clip_protocol.specs.Steps.Views.{alerts_by_id}
use Rattle.clip_protocol.proofs.Printed.{print-whole}
use Rattle.clip_protocol.proofs.found.found_text.Goals as goal

pub returns : goal.returns
returns c =
    let found = map alerts_by_id (map found_value c.args.found.now) in
    let notes = map (λ n. arc_str_bytes n.text) c.args.notes.now in
    let P : List ℕ → Type 0 = λ t. IfOk c.closed_text.result (λ whole. whole.items ≡ t) in
    subst P (print-whole c.args.form c.args.number found notes c.in_ok-opened_text.field-0.items
    c.in_ok-text.text.items c.in_ok-opened_text.ensures c.in_ok-text.ensures) c.closed_text.ensures
