-- What listeners hear of alerts, and the notes that they answer.
use Rattle.std.specs.Prelude.{◌≡◌, ℕ, List, [], ◌∷◌, ◌++◌, map, filter, filter_map, find, Bool, true, false, Option}
use Rattle.std.specs.Prelude.{Some, None, option_map, bytes_eq, not, cond, ◌&&◌, String, string_bytes}
use Rattle.std.specs.List.{list_any}
use Rattle.std.specs.Arc.{arc_str_bytes}
use Rattle.std.specs.declared.alloc.Global.{Global}
use Rattle.clip_model.specs.Alerts.{Alert}
use Rattle.clip_standing.specs.Alerts.{alert_value}
use Rattle.clip_standing.specs.declared.alert.Alerts.{Alerts}
use Rattle.clip_listen.specs.declared.style.Style.{Style}
use Rattle.clip_listen.specs.declared.note.Note.{Note}

-- ---- texts

-- what stands before the id of a query, and between it and the id of the article
pub record StyleValue : Type 0 where
  pub head : List ℕ
  pub middle : List ℕ

-- what a listener says of an alert
abbrev pub text_of : StyleValue → Alert → List ℕ
text_of style alert = style.head ++ alert.query ++ style.middle ++ alert.article

-- what the listener of a name said of a query's alert
pub record NoteValue : Type 0 where
  pub listener : List ℕ
  pub query : List ℕ
  pub text : List ℕ

-- ---- listeners

-- a listener under its name: its style, the alerts that it has heard, in order, and whether it keeps them
pub record Hearer : Type 0 where
  pub name : List ℕ
  pub style : StyleValue
  pub heard : List Alert
  pub keeps : Bool

-- what a listener reports of what it heard: all of it, where it keeps that
abbrev pub tells : Bool → List Alert → Option (List Alert)
tells keeps heard = cond keeps (Some heard) None

-- the alert's query has the listener of this name
abbrev pub is_for : List ℕ → Alert → Bool
is_for name alert = elim alert.listener [ None ↦ false | Some n ↦ bytes_eq n name ]

-- A listener after these alerts: it has heard its own, in order, and no other.
abbrev pub told : List Alert → Hearer → Hearer
told alerts l = record {
  name = l.name;
  style = l.style;
  heard = l.heard ++ filter (is_for l.name) alerts;
  keeps = l.keeps;
}

abbrev pub told_all : List Alert → List Hearer → List Hearer
told_all alerts hearers = map (told alerts) hearers

abbrev pub note_by : Alert → Hearer → NoteValue
note_by alert l = record { listener = l.name; query = alert.query; text = text_of l.style alert }

-- the note of an alert whose listener is here
abbrev pub note_of : List Hearer → Alert → Option NoteValue
note_of hearers alert = option_map (note_by alert) (find (λ l. is_for l.name alert) hearers)

abbrev pub notes_of : List Hearer → List Alert → List NoteValue
notes_of hearers alerts = filter_map (note_of hearers) alerts

-- the listeners have heard some first ones of the alerts
pub record HearsFront (alerts : List Alert) (old new : List Hearer) : Type 0 where
  pub front : List Alert
  pub rest : List Alert
  pub cut : alerts ≡ front ++ rest
  pub heard : new ≡ told_all front old

-- ---- names

-- no name is among those after it
abbrev pub distinct : List (List ℕ) → Bool
distinct [] = true
distinct (name ∷ names) = not (list_any (bytes_eq name) names) && distinct names

-- a listener has the name
abbrev pub has_name : List Hearer → List ℕ → Bool
has_name hearers name = list_any (bytes_eq name) (map (λ l. l.name) hearers)

-- ---- what the values of the code say

abbrev pub style_value : Style → StyleValue
style_value s = record { head = arc_str_bytes s.head; middle = arc_str_bytes s.middle }

abbrev pub note_value : Note → NoteValue
note_value n = record {
  listener = arc_str_bytes n.listener;
  query = arc_str_bytes n.query;
  text = arc_str_bytes n.text;
}

-- the alerts of an article
abbrev pub alerts_of : Alerts → List Alert
alerts_of found = map alert_value found.alerts.items

-- a listener under its name
abbrev pub hearer : {L : Type 0} → (L → StyleValue) → (L → List Alert) → (L → Bool) → String Global × L → Hearer
hearer style heard keeps part =
    record { name = string_bytes part.0; style = style part.1; heard = heard part.1; keeps = keeps part.1 }

abbrev pub names_of : {L : Type 0} → List (String Global × L) → List (List ℕ)
names_of parts = map (λ part. string_bytes part.0) parts
