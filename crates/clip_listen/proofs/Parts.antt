-- A part that hears an alert, among the others.
use Rattle.std.proofs.Common.{◌≡◌, ℕ, List, [], ◌∷◌, ◌++◌, get_or, set, Bool, map, true, bytes_eq, refl, sym, ap, ◌∙◌}
use Rattle.std.proofs.Common.{arith, Some, None, String, string_bytes, is_some, Result, Ok, Err, OnOk, OnErr}
use Rattle.std.specs.List.{position_from, list_any}
use Rattle.std.specs.declared.alloc.Global.{Global}
use Rattle.std.proofs.lemmas.List.{map-set, get_or-map, length-map}
use Rattle.std.proofs.Math.Seq.{map-set_same}
use Rattle.clip_model.specs.Alerts.{Alert}
use Rattle.clip_listen.specs.Heard.{Hearer, StyleValue, hearer, text_of, told_all, note_by, note_of, names_of, distinct}
use Rattle.clip_listen.proofs.Names.{found-here, found-any}
use Rattle.clip_listen.proofs.Hearing.{names_kept, heard_more, somebody, nobody}

pub on_err : {A E : Type 0} {P : Type 0} (r : Result A E) → P → OnErr r P
on_err (Ok x) p = tt
on_err (Err e) p = p

pub on_ok_then : {A E : Type 0} {P Q : Type 0} (r : Result A E) → (P → Q) → OnOk r P → OnOk r Q
on_ok_then (Ok x) f p = f p
on_ok_then (Err e) f p = tt

pub on_err_then : {A E : Type 0} {P Q : Type 0} (r : Result A E) → (P → Q) → OnErr r P → OnErr r Q
on_err_then (Ok x) f p = tt
on_err_then (Err e) f p = f p

-- the name stays
pub names_stay : {L : Type 0} (parts : List (String Global × L)) (k : ℕ) (part : String Global × L)
    → part ≡ get_or parts k part → (l : L) → names_of (set parts k (part.0, l)) ≡ names_of parts
names_stay {L} parts k part is l =
    map-set_same (λ (p : String Global × L). string_bytes p.0) parts k (part.0, l) part
    (ap (λ (p : String Global × L). string_bytes p.0) is)

-- no listener has the alert's name
pub not_here : {L : Type 0} (f : String Global × L → Hearer)
    → ((part : String Global × L) → (f part).name ≡ string_bytes part.0)
    → (alert : Alert) (name sought : List ℕ) (parts : List (String Global × L)) → Some name ≡ alert.listener
    → sought ≡ name → None ≡ position_from (bytes_eq sought) 0 (names_of parts)
    → (told_all (alert ∷ []) (map f parts) ≡ map f parts) × (note_of (map f parts) alert ≡ None)
not_here f same alert name sought parts own n none =
    nobody alert name (map f parts) (sym own)
    (ap (list_any (bytes_eq name)) (names_kept f same parts)
    ∙ sym (ap (λ ns. list_any (bytes_eq ns) (names_of parts)) n) ∙ sym (found-any (bytes_eq sought) 0 (names_of parts))
    ∙ ap is_some (sym none))

module _ {L : Type 0} (style : L → StyleValue) (heard : L → List Alert) (keeps : L
    → Bool) (parts : List (String Global × L)) (k : ℕ) (part : String Global × L) (is : part
    ≡ get_or parts k part) where
  -- only what it heard is another
  same_but_heard : (l : L) (now : List Alert) → style l ≡ style part.1 → keeps l ≡ keeps part.1 → heard l ≡ now
      → hearer style heard keeps (part.0, l) ≡ hearer style (λ _. now) keeps part
  same_but_heard l now s ks h =
      ap (λ st. hearer (λ _. st) (λ _. heard l) (λ _. keeps l) part) s
      ∙ ap (λ b. hearer style (λ _. heard l) (λ _. b) part) ks
      ∙ ap (λ hd. hearer style (λ _. hd) keeps part) h

  -- nothing was heard
  pub hears_nothing : (l : L) → style l ≡ style part.1 → keeps l ≡ keeps part.1 → heard l ≡ heard part.1
      → map (hearer style heard keeps) (set parts k (part.0, l)) ≡ map (hearer style heard keeps) parts
  hears_nothing l s ks h =
      map-set_same (hearer style heard keeps) parts k (part.0, l) part (same_but_heard l (heard part.1) s ks h
      ∙ ap (hearer style heard keeps) is)

  module _ (alert : Alert) (name : List ℕ) (own : alert.listener ≡ Some name) (once : distinct (names_of parts)
      ≡ true) (found : position_from (bytes_eq name) 0 (names_of parts) ≡ Some k) where
    its_name : string_bytes part.0 ≡ name
    its_name =
        ap (λ (p : String Global × L). string_bytes p.0) is
        ∙ sym (get_or-map (λ (p : String Global × L). string_bytes p.0) parts k part []
        (found-here name parts k found).0)
        ∙ (found-here name parts k found).1

    changes : (told_all (alert ∷ []) (map (hearer style heard keeps) parts)
        ≡ set (map (hearer style heard keeps) parts) k (heard_more alert (hearer style heard keeps part)))
        × (note_of (map (hearer style heard keeps) parts) alert ≡ Some (note_by alert (hearer style heard keeps part)))
    changes =
        let names = names_kept (hearer style heard keeps) (λ _. refl) parts in
        somebody alert name (map (hearer style heard keeps) parts) k (hearer style heard keeps part) own
        (ap distinct names ∙ once)
        (omega (arith, length-map parts (hearer style heard keeps), (found-here name parts k found).0))
        (get_or-map (hearer style heard keeps) parts k part (hearer style heard keeps part)
        (found-here name parts k found).0 ∙ ap (hearer style heard keeps) (sym is))
        (ap (λ ns. get_or ns k []) names ∙ (found-here name parts k found).1)
        its_name

    -- the alert was heard by its listener
    pub hears_one : (l : L) → style l ≡ style part.1 → keeps l ≡ keeps part.1 → heard l ≡ heard part.1 ++ alert ∷ []
        → map (hearer style heard keeps) (set parts k (part.0, l))
        ≡ told_all (alert ∷ []) (map (hearer style heard keeps) parts)
    hears_one l s ks h =
        map-set (hearer style heard keeps) parts k (part.0, l)
        ∙ ap (set (map (hearer style heard keeps) parts) k) (same_but_heard l (heard part.1 ++ alert ∷ []) s ks h)
        ∙ sym changes.0

    -- and this is its note
    pub notes_one : (text : List ℕ) → text ≡ text_of (style part.1) alert
        → note_of (map (hearer style heard keeps) parts) alert
        ≡ Some (record { listener = name; query = alert.query; text = text })
    notes_one text t =
        changes.1 ∙ ap (λ n. Some (record { listener = n; query = alert.query; text = text_of (style part.1) alert }))
        its_name
        ∙ ap (λ x. Some (record { listener = name; query = alert.query; text = x })) (sym t)
