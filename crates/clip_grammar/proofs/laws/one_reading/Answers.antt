use Rattle.clip_grammar.proofs.Faults.{one_fault}
use Rattle.clip_grammar.proofs.Lexing.{one_lexing}
use Rattle.clip_grammar.proofs.Refusals.{reads_apart, reads_or_faults}
use Rattle.clip_grammar.proofs.Uniqueness.{one_tree}
use Rattle.clip_grammar.proofs.laws.one_reading.Goals as goal

pub returns : goal.returns
returns c = record {
  lexemes = one_lexing;
  tree = one_tree;
  fault = one_fault;
  apart = reads_apart;
  decided =
      reads_or_faults;
}
