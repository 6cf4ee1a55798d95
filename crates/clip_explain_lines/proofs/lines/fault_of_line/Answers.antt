use Rattle.std.proofs.Common.{◌≡◌, subst}
use Rattle.std.specs.Prelude.{IfSome, option_map}
use Rattle.clip_protocol.specs.Steps.Outline.{outline}
use Rattle.clip_cause.specs.Causes.{IsCauseOf, told_of}
use Rattle.clip_cause.specs.First.{TellsFirstOf}
use Rattle.clip_explain_lines.proofs.LinesTold.{cause_tells}
use Rattle.clip_explain_lines.proofs.lines.fault_of_line.Goals as goal

pub returns-in-Some : goal.returns-in-Some
returns-in-Some c =
    let bytes = c.args.bytes.now in
    cause_tells bytes c.in-Some.cause c.says.result.now
    (subst (λ found. option_map (λ cause. cause.refusal) found ≡ told_of (outline bytes)) c.in-Some.is
    c.in_ok-found.ensures.refusal)
    (subst (λ found. IfSome found (IsCauseOf bytes)) c.in-Some.is c.in_ok-found.ensures.cause)
    (subst (TellsFirstOf bytes) c.in-Some.is c.in_ok-found.ensures.first) c.says.ensures
