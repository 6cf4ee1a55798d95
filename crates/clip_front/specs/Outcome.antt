-- What a run gives for its input: the replies, the alerts that are told, and the ledger.
use Rattle.std.specs.Prelude.{◌≡◌, ℕ, suc, map, flat_map, List, [], ◌∷◌, ◌++◌, length, Option, Bool, if◌then◌else◌}
use Rattle.std.specs.Io.KnownBytes.{Appends}
use Rattle.clip_model.specs.History.{History}
use Rattle.clip_model.specs.Alerts.{Alert, alerts}
use Rattle.clip_listen.specs.Heard.{Hearer, notes_of, told_all, HearsFront}
use Rattle.clip_ledger.specs.Rows.{RowValue, rows_of}
use Rattle.clip_stream.specs.Device.{AppendsFront}
use Rattle.clip_stream.specs.Lines.{lines_of}
use Rattle.clip_protocol.specs.LineMeaning as line
use Rattle.clip_protocol.specs.LineMeaning.{Meaning, Means, after}
use Rattle.clip_protocol.specs.Reply.{reply, alerts_of_all}
use Rattle.clip_stream.specs.declared.form.Form.{Form}
use Rattle.clip_front.specs.declared.settings.Settings.{Settings}

-- the text of the replies in each form, the alerts in the order of lines, articles and ids, and a row for each
pub record Outcome : Type 0 where
  pub text : Form → List ℕ
  pub alerts : List Alert
  pub rows : List RowValue

-- ---- one line

-- the alerts of a line that means this after the history
abbrev pub alerts_told : History → Meaning → List Alert
alerts_told h line.nothing = []
alerts_told h (line.refusal r) = []
alerts_told h (line.refusal_at r k) = []
alerts_told h (line.command c) = []
alerts_told h line.purging = []
alerts_told h line.counting = []
alerts_told h (line.showing id) = []
alerts_told h (line.matching articles) = alerts_of_all h articles

-- the rows of an article's alerts on line n, with what the listeners say of them
abbrev pub rows_of_article : List Hearer → ℕ → List Alert → List RowValue
rows_of_article hearers n alerts = rows_of n alerts (notes_of hearers alerts)

-- the rows of line n
abbrev pub rows_posted : List Hearer → ℕ → History → Meaning → List RowValue
rows_posted hearers n h line.nothing = []
rows_posted hearers n h (line.refusal r) = []
rows_posted hearers n h (line.refusal_at r k) = []
rows_posted hearers n h (line.command c) = []
rows_posted hearers n h line.purging = []
rows_posted hearers n h line.counting = []
rows_posted hearers n h (line.showing id) = []
rows_posted hearers n h (line.matching articles) = flat_map (λ a. rows_of_article hearers n (alerts h a)) articles

abbrev pub given : List Hearer → ℕ → History → Meaning → Outcome
given hearers n h m = record {
  text = λ form. reply form hearers n h m;
  alerts = alerts_told h m;
  rows = rows_posted hearers n h m;
}

-- ---- the whole input

abbrev pub nothing_given : Outcome
nothing_given = record { text = λ form. []; alerts = []; rows = [] }

abbrev pub followed_by : Outcome → Outcome → Outcome
followed_by first more = record {
  text = λ form. first.text form ++ more.text form;
  alerts = first.alerts ++ more.alerts;
  rows = first.rows ++ more.rows;
}

abbrev pub names_in : List Hearer → List (List ℕ)
names_in hearers = map (λ l. l.name) hearers

-- what the lines give, of which the first is line n and comes after the history
abbrev pub Gives : List Hearer → ℕ → History → List (List ℕ) → Outcome → Type 0
Gives hearers n h [] outcome = outcome ≡ nothing_given
Gives hearers n h (line ∷ lines) outcome =
    (m : Meaning) × (rest : Outcome) × Means (names_in hearers) h line m
    × (outcome ≡ followed_by (given hearers n h m) rest) × Gives hearers (suc n) (after h m) lines rest

-- the outcome of the input, where these listeners are here
abbrev pub IsOutcome : List Hearer → List ℕ → Outcome → Type 0
IsOutcome hearers input outcome = Gives hearers 1 [] (lines_of input) outcome

-- the rows, where they are kept
abbrev pub kept_rows : Bool → List RowValue → List RowValue
kept_rows keeps rows = if keeps then rows else []

-- All that is due to the input after the history with which the run began was written in the form that is set, each
-- listener has heard just its own alerts, in order, the ledger has its rows, and there were so many lines.
pub record GivesAllFrom (begins : History) (hearers heard : List Hearer) (settings : Settings)
    (old new : Option (List ℕ)) (lines : ℕ) (ledger : List RowValue) (input : List ℕ) : Type 0 where
  pub outcome : Outcome
  pub is : Gives hearers 1 begins (lines_of input) outcome
  pub replies : Appends old new (outcome.text settings.form)
  pub told : heard ≡ told_all outcome.alerts hearers
  pub rows : ledger ≡ kept_rows settings.keeps_rows outcome.rows
  pub counted : lines ≡ length (lines_of input)

-- What was written is a front of the replies to these lines after the history with which the run began, and the
-- listeners have heard a front of their alerts.
pub record GivesFrontFrom (begins : History) (hearers heard : List Hearer) (form : Form) (old new : Option (List ℕ))
    (lines : List (List ℕ)) : Type 0 where
  pub outcome : Outcome
  pub gives : Gives hearers 1 begins lines outcome
  pub replies : AppendsFront old new (outcome.text form)
  pub told : HearsFront outcome.alerts hearers heard

-- All that is due to these lines after the history with which the run began was written, and each listener has heard
-- just its own alerts.
pub record GivesLinesFrom (begins : History) (hearers heard : List Hearer) (form : Form) (old new : Option (List ℕ))
    (lines : List (List ℕ)) : Type 0 where
  pub outcome : Outcome
  pub gives : Gives hearers 1 begins lines outcome
  pub replies : Appends old new (outcome.text form)
  pub told : heard ≡ told_all outcome.alerts hearers

-- where nothing was accepted before
abbrev pub GivesAll : List Hearer → List Hearer → Settings → Option (List ℕ) → Option (List ℕ) → ℕ → List RowValue
    → List ℕ → Type 0
GivesAll = GivesAllFrom []

abbrev pub GivesFront : List Hearer → List Hearer → Form → Option (List ℕ) → Option (List ℕ) → List (List ℕ) → Type 0
GivesFront = GivesFrontFrom []

abbrev pub GivesLines : List Hearer → List Hearer → Form → Option (List ℕ) → Option (List ℕ) → List (List ℕ) → Type 0
GivesLines = GivesLinesFrom []

-- ---- lines that were kept

-- The lines lead from the history to the new one: each means something after those before it.
abbrev pub Follows : List (List ℕ) → History → List (List ℕ) → History → Type 0
Follows names h [] new = new ≡ h
Follows names h (line ∷ lines) new = (m : Meaning) × Means names h line m × Follows names (after h m) lines new

-- The property holds of the history to which these lines lead, where listeners of these names are here.
abbrev pub OfKept : List (List ℕ) → List (List ℕ) → (History → Type 0) → Type 0
OfKept names kept P = (begins : History) × Follows names [] kept begins × P begins
