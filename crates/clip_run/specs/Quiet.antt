-- What is shown of alerts that nobody hears.
use Rattle.std.specs.Prelude.{List, Option, None, Some}
use Rattle.clip_model.specs.Alerts.{Alert}
use Rattle.clip_stream.specs.declared.form.Form.{Form}
use Rattle.clip_stream.specs.declared.form.Form.TheVariants.{Plain, WithHits}

-- the alerts, where the form shows their hits
abbrev pub alerts_shown : Form → List Alert → Option (List Alert)
alerts_shown Plain alerts = None
alerts_shown WithHits alerts = Some alerts
