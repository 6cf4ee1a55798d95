use Rattle.std.proofs.Common.{◌≡◌, ◌++◌, drop, flat_map, map}
use Rattle.std.specs.Arc.{arc_str_bytes}
use Rattle.serde_json.specs.Data.{string}
use Rattle.clip_protocol.specs.Steps.Printing.{data_tokens}
use Rattle.clip_explain_lines.proofs.words.write_each.Given as goal

abbrev pub invariant-loop-word : goal.invariant-loop-word
invariant-loop-word l = record {
  tokens : l.out.tokens ++ flat_map data_tokens (map string (map arc_str_bytes (drop l.word-index l.words)))
      ≡ l.initial.out.tokens ++ flat_map data_tokens (map string (map arc_str_bytes l.words));
  before : l.out.before ≡ l.initial.out.before;
}
