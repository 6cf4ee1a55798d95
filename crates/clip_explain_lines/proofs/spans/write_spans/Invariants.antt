use Rattle.std.proofs.Common.{◌≡◌, ◌++◌, drop, map}
use Rattle.clip_protocol.specs.Steps.Printing.{last_tokens}
use Rattle.clip_explain_lines.specs.SpansData.{span_data}
use Rattle.clip_explain_lines.proofs.spans.write_spans.Given as goal

abbrev pub invariant-loop-span : goal.invariant-loop-span
invariant-loop-span l = record {
  tokens : l.out.tokens ++ last_tokens (map (span_data l.text) (drop l.span-index l.spans))
      ≡ l.initial.out.tokens ++ last_tokens (map (span_data l.text) l.spans);
  before : l.out.before ≡ l.initial.out.before;
}
