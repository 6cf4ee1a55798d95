use Rattle.std.proofs.Common.{sym, ◌∙◌, true≢false}
use Rattle.serde_json.specs.View.{members_view}
use Rattle.clip_protocol.proofs.ObjectMembers.{two_of-taken, when_none_left-some}
use Rattle.clip_protocol.proofs.members.two_of.Goals as goal

pub returns : goal.returns
returns c =
    let some = when_none_left-some _ c.take_member-2.new.members.entries
    (λ none. true≢false (sym (c.is_empty.ensures.1 none) ∙ c.if-is_empty.false)) in
    sym (two_of-taken c.args.first.now c.args.second.now _ _ (members_view c.args.members.entries)
    (members_view c.take_member.new.members.entries) (members_view c.take_member-2.new.members.entries)
    c.in_ok-first.ensures c.in_ok-second.ensures ∙ some)
