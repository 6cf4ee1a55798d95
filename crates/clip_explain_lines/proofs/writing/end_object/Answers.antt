use Rattle.std.proofs.Common.{◌++◌, ap₂, ◌∙◌}
use Rattle.json.specs.Print.{print}
use Rattle.serde_json.proofs.Texts.{print-outline}
use Rattle.clip_explain_lines.proofs.writing.end_object.Goals as goal

pub returns : goal.returns
returns c d none_before whole =
    let before = c.in_ok-end_object.ensures.room.0 ∙ none_before in
    let tokens = c.in_ok-end_object.ensures.ok ∙ whole in
    c.into_inner.ensures.items ∙ ap₂ (λ b ts. b ++ print ts) before tokens ∙ print-outline d
