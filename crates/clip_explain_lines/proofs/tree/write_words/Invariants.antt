use Rattle.std.proofs.Common.{◌≡◌, ◌++◌, drop, map}
use Rattle.std.specs.Arc.{arc_str_bytes}
use Rattle.serde_json.specs.Data.{string}
use Rattle.clip_protocol.specs.Steps.Printing.{last_tokens}
use Rattle.clip_explain_lines.proofs.tree.write_words.Given as goal

abbrev pub invariant-loop-word : goal.invariant-loop-word
invariant-loop-word l = record {
  tokens : l.out.tokens ++ last_tokens (map string (map arc_str_bytes (drop l.word-index l.words)))
      ≡ l.initial.out.tokens ++ last_tokens (map string (map arc_str_bytes l.words));
  before : l.out.before ≡ l.initial.out.before;
}
