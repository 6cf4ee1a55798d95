-- What was found of an article as contracts see it.
use Rattle.std.specs.Prelude.{◌≡◌, Bool, false, true, ⊤}
use Rattle.clip_standing.specs.Alerts.{AlertsValue, alerts_value}
use Rattle.clip_stream.specs.declared.form.Form.{Form}
use Rattle.clip_protocol.specs.declared.found.Found.{Found}
use Rattle.clip_protocol.specs.declared.found.Found.TheVariants.{Alerts, Shown}

-- the alerts of the article, also where they are let go
abbrev pub found_value : Found → AlertsValue
found_value (Alerts found) = alerts_value found
found_value (Shown shown) = shown.alerts.value

-- where it is text, it is that of a reply of this form
abbrev pub IsShownIn : Form → Found → Type 0
IsShownIn form (Alerts found) = ⊤
IsShownIn form (Shown shown) = shown.form ≡ form

-- it is text
abbrev pub is_shown : Found → Bool
is_shown (Alerts found) = false
is_shown (Shown shown) = true
