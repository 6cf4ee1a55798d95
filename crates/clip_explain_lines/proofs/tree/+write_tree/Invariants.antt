use Rattle.std.proofs.Common.{◌≡◌, ◌++◌}
use Rattle.clip_explain_lines.proofs.ClausesTold.{tokens_from}
use Rattle.clip_explain_lines.proofs.tree.+write_tree.Given as goal

abbrev pub invariant-loop-occur : goal.invariant-loop-occur
invariant-loop-occur l = record {
  tokens : l.out.tokens ++ tokens_from l.occur-index l.occur-items
      ≡ l.initial.out.tokens ++ tokens_from 0 l.occur-items;
  before : l.out.before ≡ l.initial.out.before;
}
