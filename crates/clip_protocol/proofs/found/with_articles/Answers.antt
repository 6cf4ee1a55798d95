use Rattle.std.proofs.Common.{◌∙◌, ap, ◌++◌}
use Rattle.json.specs.Print.{print}
use Rattle.clip_protocol.specs.Found.{found_value}
use Rattle.clip_protocol.specs.Reply.{alerts_data}
use Rattle.clip_protocol.specs.Steps.Printing.{data_tokens}
use Rattle.clip_protocol.specs.Steps.Views.{alerts_by_id}
use Rattle.clip_protocol.proofs.Printed.{print-next}
use Rattle.clip_protocol.proofs.found.with_articles.Goals as goal

pub loop-place-preserved : goal.loop-place-preserved
loop-place-preserved c =
    let found = c.index-all-place.result in
    let written = c.in_ok-text.ensures
    ∙ ap (λ t. t ++ print (data_tokens (alerts_data c.args.form (alerts_by_id (found_value found)))))
    c.in_ok-separate.ensures in
    print-next c.args.form c.args.all.now c.loop-place.place found c.loop-place.text.items c.in_ok-text.text.items
    c.loop-place-test.true c.index-all-place.is written ∙ c.loop-place.invariant
