-- A walk over notes whose queries rise finds the first note of each query.
use Rattle.std.proofs.Common.{◌≡◌, List, [], ◌∷◌, ℕ, Bool, true, false, cond, ◌&&◌, bytes_eq, Some, None, Ordering}
use Rattle.std.proofs.Common.{Less, Equal, Greater, is_lt, is_eq, refl, sym, ap, subst, ◌∙◌, ◌++◌, ◌+◌, ◌<◌, length}
use Rattle.std.proofs.Common.{get_or, map, take}
use Rattle.std.specs.Ordering.{ordering_reverse}
use Rattle.std.specs.Cmp.{IsTotalOrder}
use Rattle.std.proofs.lemmas.Cmp.{nat_list_cmp_total}
use Rattle.std.proofs.lemmas.Map.Text.{is_eq-slice_cmp}
use Rattle.std.proofs.lemmas.List.{map-append, take_more}
use Rattle.clip_words.specs.Order.{bytes_cmp}
use Rattle.clip_listen.specs.Heard.{NoteValue}
use Rattle.clip_standing.specs.Alerts.{alert_value}
use Rattle.clip_standing.specs.declared.alert.Alert.{Alert}
use Rattle.clip_ledger.specs.declared.row.Row.{Row}
use Rattle.clip_ledger.specs.Rows.{note_for, row_of, rows_of, row_value}
use Rattle.clip_ledger.specs.Steps.Walk.{before_first, rise, from_query, first_of}

total_order : IsTotalOrder bytes_cmp
total_order = nat_list_cmp_total

less_is : (r : Ordering) → is_lt r ≡ true → r ≡ Less
less_is Less h = refl
less_is Equal h = absurd (cc)
less_is Greater h = absurd (cc)

and_parts : (x y : Bool) → (x && y) ≡ true → (x ≡ true) × (y ≡ true)
and_parts true y h = (refl, h)
and_parts false y h = (h, absurd (cc))

-- what is before the last query is before one that isn't before it
before_both : (x last query : List ℕ) → bytes_cmp x last ≡ Less → is_lt (bytes_cmp query last) ≡ false
    → bytes_cmp x query ≡ Less
before_both x last query h not_before =
    elim (bytes_cmp query last) as (λ r. bytes_cmp query last ≡ r → is_lt r ≡ false → bytes_cmp x query ≡ Less) [
      | Less ↦ λ e f. absurd (cc)
      | Equal ↦ λ e f. total_order.antisymm x query
          ∙ ap ordering_reverse (total_order.congr query last x e ∙ total_order.antisymm last x ∙ ap ordering_reverse h)
      | Greater ↦ λ e f. total_order.trans x last query h (total_order.antisymm last query ∙ ap ordering_reverse e)
    ] refl not_before

-- the notes from a query on, among those from an earlier one on
pub onward : (last query : List ℕ) (notes : List NoteValue) → is_lt (bytes_cmp query last) ≡ false
    → from_query query (from_query last notes) ≡ from_query query notes
onward last query [] h = refl
onward last query (note ∷ notes) h =
    elim (is_lt (bytes_cmp note.query last)) as (λ b. is_lt (bytes_cmp note.query last) ≡ b
    → from_query query (cond b (from_query last notes) (note ∷ notes)) ≡ from_query query (note ∷ notes)) [
      | true ↦ λ e. onward last query notes h
          ∙ sym (ap (λ r. cond (is_lt r) (from_query query notes) (note ∷ notes))
          (before_both note.query last query (less_is (bytes_cmp note.query last) e) h))
      | false ↦ λ e. refl
    ] refl

other : (x y : List ℕ) (r : Ordering) → bytes_cmp x y ≡ r → bytes_eq x y ≡ is_eq r
other x y r e = sym (is_eq-slice_cmp x y) ∙ ap is_eq e

-- none of the notes after one that is after the query
none_after : (query : List ℕ) (note : NoteValue) (notes : List NoteValue) → rise (note ∷ notes) ≡ true
    → bytes_cmp query note.query ≡ Less → note_for notes query ≡ None
none_after query note [] h above = refl
none_after query note (next ∷ notes) h above =
    let parts = and_parts (before_first note (next ∷ notes)) (rise (next ∷ notes)) h in
    let later : bytes_cmp query next.query ≡ Less =
    total_order.trans query note.query next.query above (less_is (bytes_cmp note.query next.query) parts.0) in
    ap (λ b. cond b (Some next) (note_for notes query))
    (other next.query query Greater (total_order.antisymm next.query query ∙ ap ordering_reverse later))
    ∙ none_after query next notes parts.1 later

-- the walk finds what the search finds
pub found : (query : List ℕ) (notes : List NoteValue) → rise notes ≡ true → first_of query (from_query query notes)
    ≡ note_for notes query
found query [] h = refl
found query (note ∷ notes) h =
    let parts = and_parts (before_first note notes) (rise notes) h in
    elim (bytes_cmp note.query query) as (λ r. bytes_cmp note.query query ≡ r
    → first_of query (cond (is_lt r) (from_query query notes) (note ∷ notes)) ≡ note_for (note ∷ notes) query) [
      | Less ↦ λ e. found query notes parts.1
          ∙ sym (ap (λ b. cond b (Some note) (note_for notes query)) (other note.query query Less e))
      | Equal ↦ λ e. ap (λ b. cond b (Some note) None) (other note.query query Equal e)
          ∙ sym (ap (λ b. cond b (Some note) (note_for notes query)) (other note.query query Equal e))
      | Greater ↦ λ e.
          ap (λ b. cond b (Some note) None) (other note.query query Greater e)
          ∙ sym (none_after query note notes h (total_order.antisymm query note.query ∙ ap ordering_reverse e))
          ∙ sym (ap (λ b. cond b (Some note) (note_for notes query)) (other note.query query Greater e))
    ] refl

-- no query is before the empty text
pub from_start : (notes : List NoteValue) → from_query [] notes ≡ notes
from_start [] = refl
from_start (note ∷ notes) =
    ap (λ b. cond b (from_query [] notes) (note ∷ notes)) (elim note.query
    as (λ q. is_lt (bytes_cmp q []) ≡ false) [ [] ↦ refl | x ∷ xs ↦ refl ])

-- the row of the alert at a place, after those before it
pub next_row : (line : ℕ) (notes : List NoteValue) (list looked : List Alert) (i : ℕ) (alert : Alert)
    (old new : List Row) (row : Row) → looked ≡ list → i < length looked → alert ≡ get_or looked i alert
    → map row_value old ≡ rows_of line (map alert_value (take i list)) notes → new ≡ old ++ row ∷ []
    → row_value row ≡ row_of line notes (alert_value alert)
    → map row_value new ≡ rows_of line (map alert_value (take (i + 1) list)) notes
next_row line notes list looked i alert old new row same below is had added value =
    ap (map row_value) added ∙ map-append row_value old (row ∷ []) ∙ ap (λ rows. rows ++ row_value row ∷ []) had
    ∙ ap (λ r. rows_of line (map alert_value (take i list)) notes ++ r ∷ []) value
    ∙ sym (ap (map (row_of line notes)) (map-append alert_value (take i list) (alert ∷ []))
    ∙ map-append (row_of line notes) (map alert_value (take i list)) (alert_value alert ∷ []))
    ∙ ap (λ alerts. rows_of line (map alert_value alerts) notes)
    (subst (λ xs. take i xs ++ alert ∷ [] ≡ take (i + 1) xs) same (ap (λ x. take i looked ++ x ∷ []) is
    ∙ sym (take_more looked i alert below)))
