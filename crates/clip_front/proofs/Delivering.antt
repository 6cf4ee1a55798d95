-- The alerts of articles, delivered one article after the other.
use Rattle.std.proofs.Common.{◌≡◌, ℕ, ◌+◌, ◌<◌, List, [], ◌∷◌, ◌++◌, length, get_or, take, drop, Bool, true, false}
use Rattle.std.proofs.Common.{refl, sym, ap, ap₂, ◌∙◌, subst, append_assoc, append-nil}
use Rattle.std.proofs.lemmas.List.{take_more, take-append-drop}
use Rattle.std.proofs.lemmas.List.Elements.{filter_map-append}
use Rattle.clip_model.specs.Alerts.{Alert}
use Rattle.clip_standing.specs.Alerts.{AlertsValue}
use Rattle.clip_listen.specs.Heard.{Hearer, NoteValue, told_all, note_of, notes_of, HearsFront}
use Rattle.clip_listen.proofs.Hearing.{told_more, all_notes_kept, front_after, front_of_more}
use Rattle.clip_ledger.specs.Rows.{RowValue, rows_of}
use Rattle.clip_front.specs.Outcome.{kept_rows, rows_of_article}
use Rattle.clip_front.specs.Steps.Found.{told_in, rows_in}
use Rattle.clip_front.proofs.Outcomes.{kept_append}

told_append : (vs ws : List AlertsValue) → told_in (vs ++ ws) ≡ told_in vs ++ told_in ws
told_append [] ws = refl
told_append (v ∷ vs) ws = ap (λ xs. v.alerts ++ xs) (told_append vs ws)
    ∙ sym (append_assoc v.alerts (told_in vs) (told_in ws))

rows_append : (hearers : List Hearer) (n : ℕ) (vs ws : List AlertsValue) → rows_in hearers n (vs ++ ws)
    ≡ rows_in hearers n vs ++ rows_in hearers n ws
rows_append hearers n [] ws = refl
rows_append hearers n (v ∷ vs) ws = let rows = rows_of_article hearers n v.alerts in
    ap (λ xs. rows ++ xs) (rows_append hearers n vs ws)
    ∙ sym (append_assoc rows (rows_in hearers n vs) (rows_in hearers n ws))

-- those of the first articles and the next
told_next : (vs : List AlertsValue) (i : ℕ) (v : AlertsValue) → i < length vs → v ≡ get_or vs i v
    → told_in (take i vs) ++ v.alerts ≡ told_in (take (i + 1) vs)
told_next vs i v below is =
    ap (λ xs. told_in (take i vs) ++ xs) (sym (append-nil v.alerts)) ∙ sym (told_append (take i vs) (v ∷ []))
    ∙ ap (λ w. told_in (take i vs ++ w ∷ [])) is ∙ ap told_in (sym (take_more vs i v below))

rows_next : (hearers : List Hearer) (n : ℕ) (vs : List AlertsValue) (i : ℕ) (v : AlertsValue) → i < length vs
    → v ≡ get_or vs i v → rows_in hearers n (take i vs) ++ rows_of_article hearers n v.alerts
    ≡ rows_in hearers n (take (i + 1) vs)
rows_next hearers n vs i v below is =
    ap (λ xs. rows_in hearers n (take i vs) ++ xs) (sym (append-nil (rows_of_article hearers n v.alerts)))
    ∙ sym (rows_append hearers n (take i vs) (v ∷ []))
    ∙ ap (λ w. rows_in hearers n (take i vs ++ w ∷ [])) is ∙ ap (rows_in hearers n) (sym (take_more vs i v below))

pub heard_next : (vs : List AlertsValue) (i : ℕ) (v : AlertsValue) (old now new : List Hearer) → i < length vs
    → v ≡ get_or vs i v → now ≡ told_all (told_in (take i vs)) old → new ≡ told_all v.alerts now
    → new ≡ told_all (told_in (take (i + 1) vs)) old
heard_next vs i v old now new below is before told =
    told ∙ ap (told_all v.alerts) before ∙ told_more (told_in (take i vs)) v.alerts old
    ∙ ap (λ xs. told_all xs old) (told_next vs i v below is)

pub notes_next : (vs : List AlertsValue) (i : ℕ) (v : AlertsValue) (old now : List Hearer)
    (notes said : List NoteValue) → i < length vs → v ≡ get_or vs i v → now ≡ told_all (told_in (take i vs)) old
    → notes ≡ notes_of old (told_in (take i vs)) → said ≡ notes_of now v.alerts
    → notes ++ said ≡ notes_of old (told_in (take (i + 1) vs))
notes_next vs i v old now notes said below is before first more =
    ap₂ (λ x y. x ++ y) first (more ∙ ap (λ hs. notes_of hs v.alerts) before
    ∙ all_notes_kept (told_in (take i vs)) v.alerts old)
    ∙ sym (filter_map-append (note_of old) (told_in (take i vs)) v.alerts)
    ∙ ap (notes_of old) (told_next vs i v below is)

pub posted_next : (vs : List AlertsValue) (i n : ℕ) (v : AlertsValue) (old now : List Hearer) (keeps keeps_now : Bool)
    (first rows more : List RowValue) → i < length vs → v ≡ get_or vs i v → now ≡ told_all (told_in (take i vs)) old
    → keeps_now ≡ keeps
    → rows ≡ first ++ kept_rows keeps (rows_in old n (take i vs))
    → more ≡ rows ++ kept_rows keeps_now (rows_of_article now n v.alerts)
    → more ≡ first ++ kept_rows keeps (rows_in old n (take (i + 1) vs))
posted_next vs i n v old now keeps keeps_now first rows more below is before same posted next =
    let here : rows_of_article now n v.alerts ≡ rows_of_article old n v.alerts =
    ap (rows_of n v.alerts) (ap (λ hs. notes_of hs v.alerts) before
    ∙ all_notes_kept (told_in (take i vs)) v.alerts old) in
    next ∙ ap₂ (λ x y. x ++ y) posted (ap₂ kept_rows same here)
    ∙ append_assoc first (kept_rows keeps (rows_in old n (take i vs)))
    (kept_rows keeps (rows_of_article old n v.alerts))
    ∙ ap (λ xs. first ++ xs) (kept_append keeps (rows_in old n (take i vs)) (rows_of_article old n v.alerts)
    ∙ ap (kept_rows keeps) (rows_next old n vs i v below is))

-- a refusal at an article leaves a front of all
pub front_here : (vs : List AlertsValue) (i : ℕ) (v : AlertsValue) (old now new : List Hearer) → i < length vs
    → v ≡ get_or vs i v → now ≡ told_all (told_in (take i vs)) old → HearsFront v.alerts now new
    → HearsFront (told_in vs) old new
front_here vs i v old now new below is before front =
    let done = front_after (told_in (take i vs)) v.alerts old now new before front in
    let more = front_of_more (told_in (take i vs) ++ v.alerts) (told_in (drop (i + 1) vs)) old new done in
    subst (λ xs. HearsFront xs old new) (ap (λ xs. xs ++ told_in (drop (i + 1) vs)) (told_next vs i v below is)
    ∙ sym (told_append (take (i + 1) vs) (drop (i + 1) vs)) ∙ ap told_in (take-append-drop (i + 1) vs)) more

pub heard_front : (vs : List AlertsValue) (i : ℕ) (old now : List Hearer) → now ≡ told_all (told_in (take i vs)) old
    → HearsFront (told_in vs) old now
heard_front vs i old now heard =
    record {
      front = told_in (take i vs);
      rest = told_in (drop i vs);
      cut = ap told_in (sym (take-append-drop i vs))
          ∙ told_append (take i vs) (drop i vs);
      heard = heard;
    }

-- all were heard
pub heard_whole : (alerts : List Alert) (old new : List Hearer) → new ≡ told_all alerts old → HearsFront alerts old new
heard_whole alerts old new told = record { front = alerts; rest = []; cut = sym (append-nil alerts); heard = told }

pub none_posted : (keeps : Bool) (rows : List RowValue) → rows ≡ rows ++ kept_rows keeps []
none_posted true rows = sym (append-nil rows)
none_posted false rows = sym (append-nil rows)
