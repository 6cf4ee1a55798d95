-- Events and their answers, as contracts see them.
use Rattle.std.specs.Prelude.{ℕ, List, map, length}
use Rattle.clip_meaning.specs.Article.{ArticleValue}
use Rattle.clip_model.specs.Alerts.{Alert, alerts}
use Rattle.clip_model.specs.History.{History, Command}
use Rattle.clip_standing.specs.Command.{command_of}
use Rattle.clip_standing.specs.declared.command.Applied.{Applied}
use Rattle.clip_standing.specs.Alerts.{AlertsValue, alerts_value}
use Rattle.clip_trace.specs.declared.event.Event as code
use Rattle.clip_trace.specs.declared.event.Event.TheVariants as event
use Rattle.clip_trace.specs.declared.event.TraceAnswer.{TraceAnswer}
use Rattle.clip_trace.specs.declared.event.TraceAnswer.TheVariants as answer

-- ---- events

-- a command of a caller; a merge under a number is begun, and installed; a purge; a batch of articles under a number is
-- looked at, matched by one article, and finished
pub data Event : Type 0 where
  Accept : ℕ → Command → Event
  Begin : ℕ → Event
  Install : ℕ → Event
  Purge : Event
  Look : ℕ → List ArticleValue → Event
  Piece : ℕ → Event
  Finish : ℕ → Event

abbrev pub event_of : code.Event → Event
event_of (event.Accept caller command) = Accept caller (command_of command)
event_of (event.Begin merge) = Begin merge
event_of (event.Install merge) = Install merge
event_of event.Purge = Purge
event_of (event.Look batch articles) = Look batch articles.items
event_of (event.Piece batch) = Piece batch
event_of (event.Finish batch) = Finish batch

-- ---- answers

-- of an article its id, how many commands came before, and the alerts
pub record Found : Type 0 where
  pub article : List ℕ
  pub place : ℕ
  pub alerts : List Alert

-- what is due to an article after a history
abbrev pub found_after : History → ArticleValue → Found
found_after h a = record { article = a.id; place = length h; alerts = alerts h a }

-- what was found, without the number of queries that were tried
abbrev pub found_of : AlertsValue → Found
found_of a = record { article = a.article; place = a.place; alerts = a.alerts }

pub data Answer : Type 0 where
  Unknown : Answer
  Used : Answer
  TooMany : Answer
  Full : Answer
  Accepted : Applied → Answer
  Begun : Answer
  Nothing : Answer
  Installed : Answer
  Stale : Answer
  Purged : Answer
  Looked : Answer
  Matched : Answer
  Finished : List Found → Answer

abbrev pub answer_of : TraceAnswer → Answer
answer_of answer.Unknown = Unknown
answer_of answer.Used = Used
answer_of answer.TooMany = TooMany
answer_of answer.Full = Full
answer_of (answer.Accepted applied) = Accepted applied
answer_of answer.Begun = Begun
answer_of answer.Nothing = Nothing
answer_of answer.Installed = Installed
answer_of answer.Stale = Stale
answer_of answer.Purged = Purged
answer_of answer.Looked = Looked
answer_of answer.Matched = Matched
answer_of (answer.Finished found) = Finished (map (λ a. found_of (alerts_value a)) found.items)
