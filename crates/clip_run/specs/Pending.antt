-- What is owed, by what a run has pending.
use Rattle.std.specs.Prelude.{ℕ, List, [], Option, Some, None}
use Rattle.std.specs.List.{slice_get}
use Rattle.clip_listen.specs.Heard.{Hearer}
use Rattle.clip_front.specs.Outcome.{Outcome}
use Rattle.clip_run.specs.Owed.{Owed, owed_of, ready, matched}
use Rattle.clip_run.specs.declared.batch.Batch.{Batch}
use Rattle.clip_run.specs.declared.batch.Pending.{Pending}
use Rattle.clip_run.specs.declared.batch.Pending.TheVariants as pending

abbrev pub owed_by : Pending → Owed
owed_by (pending.Ready text) = ready text.items
owed_by (pending.Waiting batch) = matched batch.number batch.view.history batch.drafts.items

-- what is owed to the line at a place, and an empty text past the last
abbrev pub owed_from : Option Pending → Owed
owed_from None = ready []
owed_from (Some item) = owed_by item

abbrev pub owed_at : List Pending → ℕ → Owed
owed_at items line = owed_from (slice_get items line)

-- all that is owed to a line of which a batch waits
abbrev pub owed_to : List Hearer → Batch → Outcome
owed_to hearers batch = owed_of hearers (owed_by (pending.Waiting batch))
