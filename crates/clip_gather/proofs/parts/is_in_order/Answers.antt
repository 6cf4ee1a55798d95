use Rattle.std.proofs.Common.{List, subst}
use Rattle.std.specs.Prelude.{◌↔◌, IsTrue}
use Rattle.clip_standing.specs.Alerts.{alert_value}
use Rattle.clip_standing.specs.declared.alert.Alert.{Alert}
use Rattle.clip_gather.specs.Gather.{query_of}
use Rattle.clip_gather.specs.Merged.{NeverFalls}
use Rattle.clip_gather.proofs.Maps.{never_map, map_never}
use Rattle.clip_gather.proofs.parts.is_in_order.Goals as goal

pub returns : goal.returns
returns c =
    let alerts = c.args.part.now.alerts.items in
    let held = subst (λ (xs : List Alert). IsTrue c.never_falls.result ↔ NeverFalls (λ a. query_of (alert_value a)) xs)
    c.as_slice.ensures.value c.never_falls.ensures in (
      λ is. map_never alert_value query_of alerts (held.0 is),
      λ falls. held.1 (never_map alert_value query_of alerts falls),
    )
