use Rattle.std.proofs.Common.{IfOk, ap, subst, sym}
use Rattle.std.proofs.lemmas.Str.{is_utf8-from_IsUtf8}
use Rattle.clip_protocol.specs.declared.refusal.Refusal.TheVariants.{Query}
use Rattle.clip_explain_lines.specs.LineTold.{at_member, refused_there}
use Rattle.clip_explain_lines.specs.Steps.LineFaults.{IsFaultOfQuery}
use Rattle.clip_explain_lines.proofs.LinesTold.{read_query, refused_query}
use Rattle.clip_explain_lines.proofs.lines.fault_of_query.Goals as goal
use Rattle.clip_explain_lines.proofs.lines.fault_of_query.Goals.{in-Read, in-Refused+in_ok-path-in-Refused}

pub returns : goal.returns
returns c =
    elim c.match-explained.branch [
      | in-Read w ↦ subst (λ r. IfOk r (λ found. IsFaultOfQuery c.args.query.now c.args.place found)) (sym w.result-is)
          (read_query c.args.query.now c.in_ok-explained.explained _ (is_utf8-from_IsUtf8 _ c.utf8.query) w.in-Read.is
          c.in_ok-explained.ensures)
      | in-Refused+in_ok-path-in-Refused w ↦
          subst (λ r. IfOk r (λ found. IsFaultOfQuery c.args.query.now c.args.place found)) (sym w.result-is) (
            refused_query c.args.query.now c.in_ok-explained.explained _ w.in-Refused.is c.in_ok-explained.ensures,
            ap (λ p. refused_there (at_member p) Query w.fault_says.result.now) w.in_ok-path-in-Refused.ensures,
          )
    ]
