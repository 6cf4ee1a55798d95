use Rattle.std.proofs.Common.{◌≡◌, ◌++◌, ◌∷◌, ◌∙◌, [], IfOk, ap, subst, sym}
use Rattle.std.proofs.lemmas.Result.{IfOk-weaker}
use Rattle.clip_protocol.specs.Reply.{printed}
use Rattle.clip_explain_lines.specs.Replied.{RepliesIn}
use Rattle.clip_explain_lines.specs.Steps.Asking.{input_view}
use Rattle.clip_explain_lines.specs.declared.form.Form.TheVariants.{Json}
use Rattle.clip_explain_lines.proofs.answer.json_reply.Goals as goal

pub returns-in_ok-refused_text-in-Refused : goal.returns-in_ok-refused_text-in-Refused
unfolding printed
returns-in_ok-refused_text-in-Refused c =
    IfOk-weaker c.with_feed.result _ (λ reply. RepliesIn Json (input_view c.args.input.now) reply.items)
    (λ reply e. subst (λ input. RepliesIn Json (input_view input) reply.items) (sym c.in-Refused.is)
    (c.refused_says.result.now, e ∙ ap (λ t. t ++ 10 ∷ []) c.in_ok-refused_text-in-Refused.ensures))
    c.with_feed.ensures
