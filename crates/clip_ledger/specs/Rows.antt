-- The rows of a ledger.
use Rattle.std.specs.Prelude.{ℕ, List, map, find, count_by, Bool, false, Option, None, Some, option_map, bytes_eq, refl}
use Rattle.std.specs.Coded.{Coded, code_by, coded×, coded_option, coded_list, coded_ℕ}
use Rattle.std.specs.Arc.{arc_str_bytes}
use Rattle.clip_meaning.specs.Hits.{HitValue, hit_value}
use Rattle.clip_model.specs.Alerts.{Alert}
use Rattle.clip_listen.specs.Heard.{NoteValue}
use Rattle.clip_ledger.specs.declared.row.Row.{Row}

-- an alert of a line, with what its listener said of it
pub record RowValue : Type 0 where
  pub line : ℕ
  pub article : List ℕ
  pub query : List ℕ
  pub listener : Option (List ℕ)
  pub hits : List HitValue
  pub text : Option (List ℕ)

abbrev bytes_code : Coded (List ℕ)
bytes_code = coded_list coded_ℕ

abbrev pub row_code : Coded RowValue
row_code =
    code_by (ℕ × (List ℕ × (List ℕ × (Option (List ℕ) × (List HitValue × Option (List ℕ))))))
    (coded× coded_ℕ (coded× bytes_code
    (coded× bytes_code (coded× (coded_option bytes_code)
    (coded× (coded_list (coded× bytes_code coded_ℕ)) (coded_option bytes_code))))))
    (λ r. (r.line, (r.article, (r.query, (r.listener, (r.hits, r.text))))))
    (λ p. record {
      line = p.0;
      article = p.1.0;
      query = p.1.1.0;
      listener = p.1.1.1.0;
      hits = p.1.1.1.1.0;
      text = p.1.1.1.1.1;
    }) (λ _. refl)

-- the first note of a query
abbrev pub note_for : List NoteValue → List ℕ → Option NoteValue
note_for notes query = find (λ n. bytes_eq n.query query) notes

abbrev pub row_with : ℕ → Alert → Option (List ℕ) → RowValue
row_with line alert text = record {
  line = line;
  article = alert.article;
  query = alert.query;
  listener = alert.listener;
  hits = alert.hits;
  text = text;
}

-- the row of an alert, with the text of the first note of its query
abbrev pub row_of : ℕ → List NoteValue → Alert → RowValue
row_of line notes alert = row_with line alert (option_map (λ n. n.text) (note_for notes alert.query))

-- a row for each alert
abbrev pub rows_of : ℕ → List Alert → List NoteValue → List RowValue
rows_of line alerts notes = map (row_of line notes) alerts

abbrev pub is_of : List ℕ → RowValue → Bool
is_of name row = elim row.listener [ None ↦ false | Some n ↦ bytes_eq n name ]

-- how many rows have the listener
abbrev pub total : List RowValue → List ℕ → ℕ
total rows name = count_by (is_of name) rows

-- what a row of the code says
abbrev pub row_value : Row → RowValue
row_value r = record {
  line = r.line;
  article = arc_str_bytes r.article;
  query = arc_str_bytes r.query;
  listener = option_map arc_str_bytes r.listener;
  hits = map hit_value r.hits.items;
  text = option_map arc_str_bytes r.text;
}
