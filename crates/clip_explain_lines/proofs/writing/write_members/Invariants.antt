use Rattle.std.proofs.Common.{◌≡◌, ◌++◌, drop, flat_map, map}
use Rattle.clip_explain_lines.specs.Steps.Plain.{member_of, member_tokens}
use Rattle.clip_explain_lines.proofs.writing.write_members.Given as goal

abbrev pub invariant-loop-member : goal.invariant-loop-member
invariant-loop-member l = record {
  tokens : l.out.tokens ++ flat_map member_tokens (map member_of (drop l.member-index l.members))
      ≡ l.initial.out.tokens ++ flat_map member_tokens (map member_of l.members);
  before : l.out.before ≡ l.initial.out.before;
}
