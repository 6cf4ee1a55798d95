use Rattle.std.proofs.Common.{◌≡◌, ◌++◌, drop, map}
use Rattle.clip_extract.specs.Keys.{key_of}
use Rattle.clip_protocol.specs.Steps.Printing.{last_tokens}
use Rattle.clip_explain_lines.specs.Told.{key_data}
use Rattle.clip_explain_lines.proofs.keys.write_keys.Given as goal

abbrev pub invariant-loop-key : goal.invariant-loop-key
invariant-loop-key l = record {
  tokens : l.out.tokens ++ last_tokens (map key_data (map key_of (drop l.key-index l.keys)))
      ≡ l.initial.out.tokens ++ last_tokens (map key_data (map key_of l.keys));
  before : l.out.before ≡ l.initial.out.before;
}
