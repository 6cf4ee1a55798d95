use Rattle.std.proofs.Common.{◌≡◌, ◌++◌, drop, map}
use Rattle.clip_standing.specs.Alerts.{alerts_value}
use Rattle.clip_protocol.specs.Reply.{alerts_data}
use Rattle.clip_protocol.specs.Steps.Views.{alerts_by_id}
use Rattle.clip_protocol.specs.Steps.Printing.{last_tokens}
use Rattle.clip_protocol.proofs.printing.write_alerts_of_all.Given as goal

abbrev pub invariant-loop-alerts : goal.invariant-loop-alerts
invariant-loop-alerts l = record {
  tokens : l.out.tokens ++ last_tokens
      (map (alerts_data l.form) (map alerts_by_id (map alerts_value (drop l.alerts-index l.found))))
      ≡ l.initial.out.tokens ++ last_tokens (map (alerts_data l.form) (map alerts_by_id (map alerts_value l.found)));
  before : l.out.before ≡ l.initial.out.before;
}
