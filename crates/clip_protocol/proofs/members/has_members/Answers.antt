use Rattle.std.proofs.Common.{◌==◌, sym, ap, ◌∙◌}
use Rattle.serde_json.proofs.Views.{members_len-members_view}
use Rattle.clip_protocol.specs.Steps.Outline.{has_members, counts_members}
use Rattle.clip_protocol.proofs.members.has_members.Goals as goal

pub returns-in-Some : goal.returns-in-Some
unfolding has_members
returns-in-Some c = ap (λ n. n == c.args.count) (c.len.ensures.len
    ∙ sym (members_len-members_view c.in-Some.members.now.entries)) ∙ ap (counts_members c.args.count) c.in-Some.ensures
