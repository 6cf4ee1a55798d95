-- What is due to articles that wait.
use Rattle.std.specs.Prelude.{◌≡◌, ◌<◌, ℕ, List, [], map, vec_len, Option, Some, None, IfSome}
use Rattle.std.specs.List.{All, slice_get}
use Rattle.clip_standing.specs.Alerts.{AlertsValue}
use Rattle.clip_match.specs.Alerts.{alerts_due}
use Rattle.clip_protocol.specs.Found.{found_value}
use Rattle.clip_protocol.specs.declared.found.Found.{Found}
use Rattle.clip_front.specs.Steps.Found.{IsFor}
use Rattle.clip_front.specs.declared.settings.Settings.{Settings}
use Rattle.clip_run.specs.declared.batch.Batch.{Batch}
use Rattle.clip_run.specs.declared.batch.Pending.{Pending}
use Rattle.clip_run.specs.declared.batch.Pending.TheVariants as pending
use Rattle.clip_run.specs.declared.giver.Turn.{Turn}
use Rattle.clip_run.specs.declared.group.Answer.{Answer}
use Rattle.clip_run.specs.declared.helpers.Helper.{Helper}

-- the alerts of each article of a batch, at its view
abbrev pub due_to : Batch → List AlertsValue
due_to batch = map (alerts_due batch.view) batch.drafts.items

-- those of the articles of a line
abbrev pub due_by : Option Pending → List AlertsValue
due_by None = []
due_by (Some (pending.Ready text)) = []
due_by (Some (pending.Waiting batch)) = due_to batch

-- What was found is what is due at a place of these, and is shown, if it is, for the settings.
pub record IsDue (settings : Settings) (due : List AlertsValue) (article : ℕ) (found : Found) : Type 0 where
  pub alerts : slice_get due article ≡ Some (found_value found)
  pub fit : IsFor settings found

-- It is what is due to the article at the answer's place of the lines.
abbrev pub IsDueAt : Settings → List Pending → Answer → Type 0
IsDueAt settings items answer =
    IsDue settings (due_by (slice_get items answer.place.line)) answer.place.article answer.found

-- Each is.
abbrev pub AreDue : Settings → List Pending → List Answer → Type 0
AreDue settings items answers = All (IsDueAt settings items) answers

-- Whatever the answers are due to, what was taken of them is due at this place, and the others are due as they were.
abbrev pub TakesAnswer : List Answer → List Answer → ℕ → ℕ → Option Found → Type 0
TakesAnswer old new line article result =
    (settings : Settings) (items : List Pending) → AreDue settings items old
    → AreDue settings items new × IfSome result (IsDue settings (due_by (slice_get items line)) article)

-- The helper was asked for what is due to articles of these lines, for the settings.
abbrev pub IsAskedFor : Settings → List Pending → Helper → Type 0
IsAskedFor settings items helper =
    (helper.thread.promise.settings ≡ settings) × (helper.thread.promise.items.value.items ≡ items)

-- What was added is due to what the helper was asked for, whatever that is.
abbrev pub AddsDue : Helper → List Answer → List Answer → Type 0
AddsDue helper old new =
    (settings : Settings) (items : List Pending) → IsAskedFor settings items helper → AreDue settings items old
    → AreDue settings items new

-- The article is one of the batch, and what was found of it is due.
pub record IsTurn (settings : Settings) (turn : Turn) : Type 0 where
  pub within : turn.article < vec_len turn.batch.now.drafts
  pub due : IfSome turn.found (IsDue settings (due_to turn.batch.now) turn.article)

-- At some lines, at which the batch waits at this place, the answers are due.
pub record WaitsAt (settings : Settings) (line : ℕ) (batch : Batch) (answers : List Answer) : Type 0 where
  pub items : List Pending
  pub here : slice_get items line ≡ Some (pending.Waiting batch)
  pub due : AreDue settings items answers

-- At whatever lines the batch waits at this place, and whose answers these were, the answers that are left are due.
abbrev pub KeepsDue : Settings → ℕ → Batch → List Answer → List Answer → Type 0
KeepsDue settings line batch old new =
    (items : List Pending) → slice_get items line ≡ Some (pending.Waiting batch) → AreDue settings items old
    → AreDue settings items new

-- Of helpers that were asked for one thing, some are left, and what was added is due to it.
abbrev pub FinishesOne : List Helper → List Helper → List Answer → List Answer → Type 0
FinishesOne helpers left old new =
    (settings : Settings) (items : List Pending) → All (IsAskedFor settings items) helpers → AreDue settings items old
    → All (IsAskedFor settings items) left × AreDue settings items new
