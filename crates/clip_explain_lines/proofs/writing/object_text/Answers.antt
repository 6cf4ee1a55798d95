use Rattle.std.proofs.Common.{◌++◌, ◌∷◌, [], ap, ◌∙◌, flat_map, map}
use Rattle.json.specs.Token.{end_object}
use Rattle.clip_protocol.specs.Request.{object_of}
use Rattle.clip_explain_lines.specs.Steps.Plain.{member_of, member_tokens}
use Rattle.clip_explain_lines.proofs.PlainMembers.{object_tokens}
use Rattle.clip_explain_lines.proofs.writing.object_text.Goals as goal

pub returns : goal.returns
returns c =
    let ms = map member_of c.args.members.now in
    let written = c.in_ok-write_members.ensures in
    c.end_object.ensures (object_of ms) (written.before ∙ c.in_ok-out.ensures.before)
    (ap (λ ts. ts ++ end_object ∷ [])
    (written.tokens ∙ ap (λ ts. ts ++ flat_map member_tokens ms) c.in_ok-out.ensures.tokens) ∙ object_tokens [] ms)
