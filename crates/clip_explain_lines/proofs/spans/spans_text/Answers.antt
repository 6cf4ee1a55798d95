use Rattle.std.proofs.Common.{arith}
use Rattle.std.proofs.lemmas.Grind.{common_steps}
use Rattle.clip_explain_lines.specs.SpansData.{spans_data}
use Rattle.clip_explain_lines.proofs.spans.spans_text.Goals as goal

pub returns : goal.returns
returns c =
    c.end_object.ensures (spans_data c.args.text.now c.args.spans.now) (grind (arith, common_steps))
    (grind (arith, common_steps))
