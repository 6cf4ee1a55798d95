use Rattle.std.proofs.Common.{◌≡◌, ◌++◌, drop, map}
use Rattle.std.specs.Arc.{arc_str_bytes}
use Rattle.serde_json.specs.Data.{string}
use Rattle.clip_protocol.specs.Steps.Printing.{last_tokens}
use Rattle.clip_protocol.proofs.printing.write_notes.Given as goal

abbrev pub invariant-loop-note : goal.invariant-loop-note
invariant-loop-note l = record {
  tokens : l.out.tokens ++ last_tokens (map string (map (λ n. arc_str_bytes n.text) (drop l.note-index l.notes)))
      ≡ l.initial.out.tokens ++ last_tokens (map string (map (λ n. arc_str_bytes n.text) l.notes));
  before : l.out.before ≡ l.initial.out.before;
}
