use Rattle.std.proofs.Common.{◌≡◌, All, true, is_some, map}
use Rattle.clip_match.specs.Alerts.{alert_due}
use Rattle.clip_standing.specs.Alerts.{alert_value, has_hits}
use Rattle.clip_match.proofs.matching.alerts.Given as goal

abbrev pub invariant-loop-one : goal.invariant-loop-one
invariant-loop-one l = record {
  value : map alert_value l.alerts.items ≡ map (alert_due l.article) (map (λ h. h.registered.now) l.yielded);
  found : All (λ h. is_some h.hits ≡ true) l.fn.held.items → All (λ alert. has_hits alert ≡ true) l.alerts.items;
}
