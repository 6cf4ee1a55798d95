use Rattle.std.proofs.Common.{◌≡◌, ◌++◌, drop, map}
use Rattle.clip_protocol.specs.Reply.{hit_data}
use Rattle.clip_protocol.specs.Request.{array_of}
use Rattle.clip_protocol.specs.Steps.Printing.{last_tokens}
use Rattle.clip_protocol.proofs.printing.write_hits_of_all.Given as goal

abbrev pub invariant-loop-alert : goal.invariant-loop-alert
invariant-loop-alert l = record {
  tokens : l.out.tokens ++ last_tokens
      (map (λ a. array_of (map hit_data a.hits)) (drop l.alert-index l.alerts))
      ≡ l.initial.out.tokens ++ last_tokens (map (λ a. array_of (map hit_data a.hits)) l.alerts);
  before : l.out.before ≡ l.initial.out.before;
}
