use Rattle.std.proofs.Common.{◌≡◌, ◌++◌}
use Rattle.clip_explain_lines.proofs.ClausesTold.{words_from}
use Rattle.clip_explain_lines.proofs.words.+write_words_in.Given as goal

abbrev pub invariant-loop-child : goal.invariant-loop-child
invariant-loop-child l = record {
  tokens : l.out.tokens ++ words_from l.child-index l.child-items ≡ l.initial.out.tokens ++ words_from 0 l.child-items;
  before : l.out.before ≡ l.initial.out.before;
}
