-- Batches as their fields hold them.
use Rattle.std.specs.Prelude.{◌≡◌, map, take, length}
use Rattle.clip_match.specs.Alerts.{alerts_due}
use Rattle.clip_standing.specs.Alerts.{alerts_value}
use Rattle.clip_trace.specs.Schedule.{Batch}
use Rattle.clip_trace.specs.declared.batch.Batch.TheInside.{Inside}

abbrev pub batch_inside : Inside → Batch
batch_inside b = record { history = b.view.history; articles = b.articles.items; matched = length b.found.items }

-- What was found is what is due to the first articles on the batch's view.
abbrev pub IsBatchInside : Inside → Type 0
IsBatchInside b = map alerts_value b.found.items
    ≡ map (alerts_due b.view) (take (length b.found.items) b.articles.items)
