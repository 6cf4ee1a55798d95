use Rattle.std.proofs.Common.{◌≡◌, ◌++◌, drop, map}
use Rattle.clip_protocol.specs.Steps.Printing.{last_tokens}
use Rattle.clip_explain_lines.specs.Told.{remark_data}
use Rattle.clip_explain_lines.proofs.remarked.write_remarks.Given as goal

abbrev pub invariant-loop-remark : goal.invariant-loop-remark
invariant-loop-remark l = record {
  tokens : l.out.tokens ++ last_tokens (map remark_data (drop l.remark-index l.remarks))
      ≡ l.initial.out.tokens ++ last_tokens (map remark_data l.remarks);
  before : l.out.before ≡ l.initial.out.before;
}
