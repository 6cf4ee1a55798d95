use Rattle.clip_model.proofs.Private.{alerts_are_private, heard_is_private, others_pass_by}
use Rattle.clip_model.proofs.tenants.private_alerts.Goals as goal

pub returns : goal.returns
returns c = record { alerts = alerts_are_private; heard = heard_is_private; others = others_pass_by }
