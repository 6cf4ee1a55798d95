-- What giving an article comes to: its alerts are delivered and posted, and its part of the reply to its line is put.
use Rattle.std.specs.Prelude.{◌≡◌, ℕ, List, [], ◌++◌, map, Bool, true, false, Some, Result, OnErr}
use Rattle.std.specs.Prelude.{OnOk}
use Rattle.std.specs.List.{slice_get}
use Rattle.clip_stream.specs.Device.{AppendsFront, HandsOver}
use Rattle.clip_stream.specs.declared.fault.RunFault.{RunFault}
use Rattle.clip_standing.specs.Alerts.{AlertsValue}
use Rattle.clip_listen.specs.Heard.{Hearer, NoteValue, note_value, notes_of, told_all, HearsFront}
use Rattle.clip_ledger.specs.Rows.{RowValue}
use Rattle.clip_protocol.specs.Reply.{alerts_data}
use Rattle.clip_protocol.specs.Steps.Flowing.{item_text}
use Rattle.clip_protocol.specs.Steps.Putting.{Stand}
use Rattle.clip_protocol.specs.Steps.Views.{alerts_by_id}
use Rattle.clip_front.specs.Outcome.{kept_rows, rows_of_article}
use Rattle.clip_front.specs.declared.delivery.MatchReply.{MatchReply}
use Rattle.clip_front.specs.declared.settings.Settings.{Settings}

-- what holds between two articles of a line: what the listeners have heard, the rows, where they are kept, the
-- settings, the number of the line, what was said of its alerts, whether its reply shows an article, and how far the
-- text has come
pub record Giving : Type 0 where
  pub hearers : List Hearer
  pub rows : List RowValue
  pub settings : Settings
  pub number : ℕ
  pub notes : List NoteValue
  pub has_article : Bool
  pub flow : Stand

-- by a reply that is on its way
abbrev pub giving : List Hearer → List RowValue → Settings → MatchReply → Stand → Giving
giving hearers rows settings reply flow = record {
  hearers = hearers;
  rows = rows;
  settings = settings;
  number = reply.number;
  notes = map note_value reply.notes.items;
  has_article = reply.has_article;
  flow = flow;
}

-- before the reply is begun
abbrev pub unbegun : List Hearer → List RowValue → Settings → ℕ → Stand → Giving
unbegun hearers rows settings number flow = record {
  hearers = hearers;
  rows = rows;
  settings = settings;
  number = number;
  notes = [];
  has_article = false;
  flow = flow;
}

-- what the reply shows of an article, after a comma where it shows another already
abbrev pub shown_next : Giving → AlertsValue → List ℕ
shown_next s v = item_text s.has_article (alerts_data s.settings.form (alerts_by_id v))

-- The alerts of an article were told, noted and posted, and what the reply shows of it was put; or a front of the
-- alerts was told, and a front of the text written.
pub record GivesArticle {T : Type 0} (old new : Giving) (v : AlertsValue) (result : Result T RunFault) : Type 0 where
  pub number : new.number ≡ old.number
  pub settings : new.settings ≡ old.settings
  pub notes : OnOk result (new.notes ≡ old.notes ++ notes_of old.hearers v.alerts)
  pub later : OnOk result (new.has_article ≡ true)
  pub heard : OnOk result (new.hearers ≡ told_all v.alerts old.hearers)
  pub rows : OnOk result (new.rows
      ≡ old.rows ++ kept_rows old.settings.keeps_rows (rows_of_article old.hearers old.number v.alerts))
  pub moved : OnOk result
      (HandsOver old.flow.taken (old.flow.waiting ++ shown_next old v) new.flow.taken new.flow.waiting)
  pub err : OnErr result (HearsFront v.alerts old.hearers new.hearers)
  pub front : OnErr result (AppendsFront old.flow.taken new.flow.taken (old.flow.waiting ++ shown_next old v))

-- So it was with the article at this place of those to which these are due.
pub record GivesDue {T : Type 0} (due : List AlertsValue) (article : ℕ) (old new : Giving) (result : Result T RunFault)
    : Type 0 where
  pub value : AlertsValue
  pub here : slice_get due article ≡ Some value
  pub given : GivesArticle old new value result
