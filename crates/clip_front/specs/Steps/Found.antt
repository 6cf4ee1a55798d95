-- What is given for the alerts that were found for a line.
use Rattle.std.specs.Prelude.{◌≡◌, ℕ, List, false, map, flat_map, ⊤}
use Rattle.std.proofs.Props.{props}
use Rattle.clip_model.specs.Alerts.{Alert}
use Rattle.clip_standing.specs.Alerts.{AlertsValue}
use Rattle.clip_listen.specs.Heard.{Hearer}
use Rattle.clip_ledger.specs.Rows.{RowValue}
use Rattle.clip_front.specs.Outcome.{Outcome, rows_of_article}
use Rattle.clip_front.specs.declared.settings.Settings.{Settings}
use Rattle.clip_stream.specs.declared.form.Form.{Form}
use Rattle.clip_protocol.specs.declared.found.Found.{Found}
use Rattle.clip_protocol.specs.declared.found.Found.TheVariants as found
use Rattle.clip_protocol.specs.Reply.{matched, reply_text, texts_said}
use Rattle.clip_protocol.specs.Steps.Views.{alerts_by_id}

-- what was found is shown, if it is, in the form of the settings, and only where no rows are kept
abbrev pub IsFor : Settings → Found → Type 0
IsFor settings (found.Alerts a) = ⊤
IsFor settings (found.Shown s) = (s.form ≡ settings.form) × (settings.keeps_rows ≡ false)

-- any two proofs of it are one
pub one_way_for : (settings : Settings) (one : Found) → IsProp (IsFor settings one)
one_way_for settings (found.Alerts a) = Prim.hlevel props
one_way_for settings (found.Shown s) = Prim.hlevel props

-- the alerts that are found of articles, in order
abbrev pub told_in : List AlertsValue → List Alert
told_in found = flat_map (λ v. v.alerts) found

-- the rows of them on line n
abbrev pub rows_in : List Hearer → ℕ → List AlertsValue → List RowValue
rows_in hearers n found = flat_map (λ v. rows_of_article hearers n v.alerts) found

-- the text of the reply to line n in this form
abbrev pub found_text : Form → List Hearer → ℕ → List AlertsValue → List ℕ
found_text form hearers n found =
    reply_text n (matched form (map alerts_by_id found) (texts_said hearers (told_in found)))

-- all that line n gives
abbrev pub found_outcome : List Hearer → ℕ → List AlertsValue → Outcome
found_outcome hearers n found =
    record { text = λ form. found_text form hearers n found; alerts = told_in found; rows = rows_in hearers n found }
