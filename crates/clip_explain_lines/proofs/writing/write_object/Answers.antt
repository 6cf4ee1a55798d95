use Rattle.std.proofs.Common.{◌++◌, ◌∷◌, [], ap, ◌∙◌, flat_map, map}
use Rattle.json.specs.Token.{end_object}
use Rattle.clip_explain_lines.specs.Steps.Plain.{member_of, member_tokens}
use Rattle.clip_explain_lines.proofs.PlainMembers.{object_tokens}
use Rattle.clip_explain_lines.proofs.writing.write_object.Goals as goal

pub returns : goal.returns
returns c =
    let ms = map member_of c.args.members.now in
    let begun = ap (λ ts. ts ++ flat_map member_tokens ms) c.in_ok-begin_object.ensures.ok in
    record {
      tokens =
          c.in_ok-end_object.ensures.ok
          ∙ ap (λ ts. ts ++ end_object ∷ []) (c.in_ok-write_members.ensures.tokens ∙ begun)
          ∙ object_tokens c.args.out.now.tokens ms;
      before =
          c.in_ok-end_object.ensures.room.0 ∙ c.in_ok-write_members.ensures.before
          ∙ c.in_ok-begin_object.ensures.room.0;
    }
