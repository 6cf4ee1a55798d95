use Rattle.std.proofs.Common.{arith}
use Rattle.std.proofs.lemmas.Grind.{common_steps}
use Rattle.clip_explain_lines.specs.Told.{query_data}
use Rattle.clip_explain_lines.proofs.queries.read_text.Goals as goal

pub returns : goal.returns
returns c = c.end_object.ensures (query_data c.args.told.now c.args.remarks.now c.args.says.now)
    (grind (arith, common_steps)) (grind (arith, common_steps))
