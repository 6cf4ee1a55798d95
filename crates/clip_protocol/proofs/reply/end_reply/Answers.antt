use Rattle.std.proofs.Common.{◌≡◌, [], ◌∷◌, ◌++◌, IfOk, List, ℕ, ap, ap₂, ◌∙◌, subst}
use Rattle.json.specs.Print.{print}
use Rattle.serde_json.proofs.Texts.{print-outline}
use Rattle.clip_protocol.specs.Reply.{printed}
use Rattle.clip_protocol.proofs.reply.end_reply.Goals as goal

pub returns : goal.returns
unfolding printed
returns c d none_before whole =
    let text = ap₂ (λ b ts. b ++ print ts ++ 10 ∷ []) none_before whole ∙ ap (λ t. t ++ 10 ∷ []) (print-outline d) in
    let P : List ℕ → Type 0 = λ t. IfOk c.line_of.result (λ after. after.items ≡ t) in
    subst P text c.line_of.ensures
