-- What an alert changes, and what several do.
use Rattle.std.proofs.Common.{◌≡◌, ℕ, zero, suc, ◌+◌, ◌<◌, List, [], ◌∷◌, ◌++◌, length, get_or, set, take, drop, map}
use Rattle.std.proofs.Common.{Bool, true, false, not, cond, ◌||◌, ◌&&◌, bytes_eq, refl, sym, ap, ◌∙◌, subst, arith}
use Rattle.std.proofs.Common.{Option, Some, None, option_map, append_assoc, filter, find, String, string_bytes, inl}
use Rattle.std.proofs.Common.{inr, ◌⊎◌}
use Rattle.std.specs.List.{list_any, cons_option}
use Rattle.std.specs.declared.alloc.Global.{Global}
use Rattle.std.proofs.lemmas.List.{append-nil, take-append-drop, take_more, length-map, get_or-map}
use Rattle.std.proofs.lemmas.List.Elements.{filter-append, filter_map-append}
use Rattle.std.proofs.lemmas.Slice.Eq.{bytes_eq-Decides}
use Rattle.clip_model.specs.Alerts.{Alert}
use Rattle.clip_listen.specs.Heard.{Hearer, NoteValue, is_for, told, told_all, note_by, note_of, notes_of, names_of}
use Rattle.clip_listen.specs.Heard.{distinct, HearsFront}

-- the names of listeners are those that they stand under
pub names_kept : {L : Type 0} (f : String Global × L → Hearer)
    → ((part : String Global × L) → (f part).name ≡ string_bytes part.0) → (parts : List (String Global × L))
    → map (λ l. l.name) (map f parts) ≡ names_of parts
names_kept f same [] = refl
names_kept f same (part ∷ parts) = ap (λ n. n ∷ map (λ l. l.name) (map f parts)) (same part)
    ∙ ap (λ ns. string_bytes part.0 ∷ ns) (names_kept f same parts)

-- a listener that heard this
abbrev with_heard : Hearer → List Alert → Hearer
with_heard l heard = record { name = l.name; style = l.style; heard = heard; keeps = l.keeps }

-- a listener that heard one more
abbrev pub heard_more : Alert → Hearer → Hearer
heard_more alert l = with_heard l (l.heard ++ alert ∷ [])

-- one alert at one listener
told_one : (alert : Alert) (l : Hearer) (b : Bool) → is_for l.name alert ≡ b
    → told (alert ∷ []) l ≡ cond b (heard_more alert l) l
told_one alert l b e =
    ap (λ v. with_heard l (l.heard ++ cond v (alert ∷ []) [])) e
    ∙ elim b as (λ v. with_heard l (l.heard ++ cond v (alert ∷ []) []) ≡ cond v (heard_more alert l) l) [
      | true ↦
          refl
      | false ↦ ap (with_heard l) (append-nil l.heard)
    ]

for_name : (alert : Alert) (n name : List ℕ) → alert.listener ≡ Some n → is_for name alert ≡ bytes_eq n name
for_name alert n name e = ap (λ (o : Option (List ℕ)). elim o [ None ↦ false | Some m ↦ bytes_eq m name ]) e

for_none : (alert : Alert) (name : List ℕ) → alert.listener ≡ None → is_for name alert ≡ false
for_none alert name e = ap (λ (o : Option (List ℕ)). elim o [ None ↦ false | Some m ↦ bytes_eq m name ]) e

same_name : (n : List ℕ) → bytes_eq n n ≡ true
same_name n = (bytes_eq-Decides n n).1 refl

or_parts : (x y : Bool) → (x || y) ≡ false → (x ≡ false) × (y ≡ false)
or_parts true y h = (h, absurd (cc))
or_parts false y h = (refl, h)

and_parts : (x y : Bool) → (x && y) ≡ true → (x ≡ true) × (y ≡ true)
and_parts true y h = (refl, h)
and_parts false y h = (h, absurd (cc))

is_not : (x : Bool) → not x ≡ true → x ≡ false
is_not true h = sym h
is_not false h = refl

-- an alert for a name that is not here changes nothing
pub nobody : (alert : Alert) (n : List ℕ) (hearers : List Hearer) → alert.listener ≡ Some n
    → list_any (bytes_eq n) (map (λ l. l.name) hearers) ≡ false → (told_all (alert ∷ []) hearers ≡ hearers)
    × (note_of hearers alert ≡ None)
nobody alert n [] e h = (refl, refl)
nobody alert n (l ∷ ls) e h =
    let parts = or_parts (bytes_eq n l.name) (list_any (bytes_eq n) (map (λ l. l.name) ls)) h in
    let here : is_for l.name alert ≡ false = for_name alert n l.name e ∙ parts.0 in
    let rest = nobody alert n ls e parts.1 in (
      ap (λ x. x ∷ told_all (alert ∷ []) ls) (told_one alert l false here) ∙ ap (λ xs. l ∷ xs) rest.0,
      ap (λ v. option_map (note_by alert) (cond v (Some l) (find (λ l. is_for l.name alert) ls))) here ∙ rest.1,
    )

-- nor does an alert with no listener
pub unnamed : (alert : Alert) (hearers : List Hearer) → alert.listener ≡ None
    → (told_all (alert ∷ []) hearers ≡ hearers) × (note_of hearers alert ≡ None)
unnamed alert [] e = (refl, refl)
unnamed alert (l ∷ ls) e =
    let here = for_none alert l.name e in
    let rest = unnamed alert ls e in (
      ap (λ x. x ∷ told_all (alert ∷ []) ls) (told_one alert l false here) ∙ ap (λ xs. l ∷ xs) rest.0,
      ap (λ v. option_map (note_by alert) (cond v (Some l) (find (λ l. is_for l.name alert) ls))) here ∙ rest.1,
    )

-- a name that stands at a place passes
any_at : (n m : List ℕ) (names : List (List ℕ)) (k : ℕ) → k < length names → get_or names k [] ≡ m
    → list_any (bytes_eq n) names ≡ false → bytes_eq n m ≡ false
any_at n m [] k h e none = absurd (omega arith)
any_at n m (x ∷ xs) zero h e none =
    ap (bytes_eq n) (sym e) ∙ (or_parts (bytes_eq n x) (list_any (bytes_eq n) xs) none).0
any_at n m (x ∷ xs) (suc k) h e none =
    any_at n m xs k (omega arith) e (or_parts (bytes_eq n x) (list_any (bytes_eq n) xs) none).1

turned : (n m : List ℕ) → bytes_eq n m ≡ false → bytes_eq m n ≡ false
turned n m h = elim (bytes_eq m n) as (λ b. bytes_eq m n ≡ b → b ≡ false) [
  | true ↦
      λ e. sym ((bytes_eq-Decides n m).1 (sym ((bytes_eq-Decides m n).0 e))) ∙ h
  | false ↦ λ e. refl
] refl

-- an alert changes just the listener of its name, which answers its note
pub somebody : (alert : Alert) (n : List ℕ) (hearers : List Hearer) (k : ℕ) (l : Hearer) → alert.listener ≡ Some n
    → distinct (map (λ l. l.name) hearers) ≡ true → k < length hearers → get_or hearers k l ≡ l
    → get_or (map (λ l. l.name) hearers) k [] ≡ n → l.name ≡ n
    → (told_all (alert ∷ []) hearers ≡ set hearers k (heard_more alert l))
    × (note_of hearers alert ≡ Some (note_by alert l))
somebody alert n [] k l e once h at name is = absurd (omega arith)
somebody alert n (x ∷ xs) zero l e once h at name is =
    let parts = and_parts (not (list_any (bytes_eq x.name) (map (λ l. l.name) xs))) (distinct (map (λ l. l.name) xs))
    once in
    let here : is_for x.name alert ≡ true = for_name alert n x.name e ∙ ap (bytes_eq n) name ∙ same_name n in
    let rest = nobody alert n xs e
    (subst (λ m. list_any (bytes_eq m) (map (λ l. l.name) xs)
    ≡ false) name (is_not (list_any (bytes_eq x.name) (map (λ l. l.name) xs)) parts.0)) in (
      ap (λ y. y ∷ told_all (alert ∷ []) xs) (told_one alert x true here) ∙ ap (λ ys. heard_more alert x ∷ ys) rest.0
          ∙ ap (λ y. heard_more alert y ∷ xs) at,
      ap (λ v. option_map (note_by alert) (cond v (Some x) (find (λ l. is_for l.name alert) xs))) here
          ∙ ap (λ y. Some (note_by alert y)) at,
    )
somebody alert n (x ∷ xs) (suc k) l e once h at name is =
    let parts = and_parts (not (list_any (bytes_eq x.name) (map (λ l. l.name) xs))) (distinct (map (λ l. l.name) xs))
    once in
    let other : bytes_eq x.name n ≡ false =
    any_at x.name n (map (λ l. l.name) xs) k (omega (arith, length_names xs)) name
    (is_not (list_any (bytes_eq x.name) (map (λ l. l.name) xs)) parts.0) in
    let here : is_for x.name alert ≡ false = for_name alert n x.name e ∙ turned x.name n other in
    let rest = somebody alert n xs k l e parts.1 (omega arith) at name is in (
      ap (λ y. y ∷ told_all (alert ∷ []) xs) (told_one alert x false here) ∙ ap (λ ys. x ∷ ys) rest.0,
      ap (λ v. option_map (note_by alert) (cond v (Some x) (find (λ l. is_for l.name alert) xs))) here ∙ rest.1,
    )
  where
    length_names : (ls : List Hearer) → length (map (λ l. l.name) ls) ≡ length ls
    length_names [] = refl
    length_names (l ∷ ls) = ap suc (length_names ls)

-- first some alerts, then more
pub told_more : (front more : List Alert) (hearers : List Hearer) → told_all more (told_all front hearers)
    ≡ told_all (front ++ more) hearers
told_more front more [] = refl
told_more front more (l ∷ ls) =
    ap (λ x. x ∷ told_all more (told_all front ls))
    (ap (with_heard l) (append_assoc l.heard (filter (is_for l.name) front) (filter (is_for l.name) more)
    ∙ ap (λ xs. l.heard ++ xs) (sym (filter-append (is_for l.name) front more))))
    ∙ ap (λ xs. told (front ++ more) l ∷ xs) (told_more front more ls)

-- what was heard changes no note
pub notes_kept : (front : List Alert) (alert : Alert) (hearers : List Hearer) → note_of (told_all front hearers) alert
    ≡ note_of hearers alert
notes_kept front alert [] = refl
notes_kept front alert (l ∷ ls) =
    elim (is_for l.name alert)
    as (λ v. option_map (note_by alert)
    (cond v (Some (told front l)) (find (λ l. is_for l.name alert) (told_all front ls)))
    ≡ option_map (note_by alert) (cond v (Some l) (find (λ l. is_for l.name alert) ls))) [
      | true ↦ refl
      | false ↦
          notes_kept front alert ls
    ]

pub all_notes_kept : (front alerts : List Alert) (hearers : List Hearer) → notes_of (told_all front hearers) alerts
    ≡ notes_of hearers alerts
all_notes_kept front [] hearers = refl
all_notes_kept front (alert ∷ alerts) hearers =
    ap (λ note. cons_option note (notes_of (told_all front hearers) alerts)) (notes_kept front alert hearers)
    ∙ ap (cons_option (note_of hearers alert)) (all_notes_kept front alerts hearers)

-- nor a name
pub names_told : (front : List Alert) (hearers : List Hearer) → map (λ l. l.name) (told_all front hearers)
    ≡ map (λ l. l.name) hearers
names_told front [] = refl
names_told front (l ∷ ls) = ap (λ names. l.name ∷ names) (names_told front ls)

pub notes_more : (hearers : List Hearer) (front : List Alert) (alert : Alert) → notes_of hearers (front ++ alert ∷ [])
    ≡ notes_of hearers front ++ cons_option (note_of hearers alert) []
notes_more hearers front alert = filter_map-append (note_of hearers) front (alert ∷ [])

-- no alert
pub told_none : (hearers : List Hearer) → told_all [] hearers ≡ hearers
told_none [] = refl
told_none (l ∷ ls) = ap (λ x. x ∷ told_all [] ls) (ap (with_heard l) (append-nil l.heard))
    ∙ ap (λ xs. l ∷ xs) (told_none ls)

-- the alert at a place, after those before it
pub told_next : (alerts : List Alert) (i : ℕ) (alert : Alert) (old now : List Hearer) → i < length alerts
    → alert ≡ get_or alerts i alert → now ≡ told_all (take i alerts) old
    → told_all (alert ∷ []) now ≡ told_all (take (i + 1) alerts) old
told_next alerts i alert old now below is h =
    ap (told_all (alert ∷ [])) h ∙ told_more (take i alerts) (alert ∷ []) old
    ∙ ap (λ a. told_all (take i alerts ++ a ∷ []) old) is
    ∙ ap (λ xs. told_all xs old) (sym (take_more alerts i alert below))

pub notes_next : (alerts : List Alert) (i : ℕ) (alert : Alert) (old now : List Hearer) (notes : List NoteValue)
    → i < length alerts → alert ≡ get_or alerts i alert → now ≡ told_all (take i alerts) old
    → notes ≡ notes_of old (take i alerts) → notes ++ cons_option (note_of now alert) []
    ≡ notes_of old (take (i + 1) alerts)
notes_next alerts i alert old now notes below is h n =
    ap (λ xs. xs ++ cons_option (note_of now alert) []) n
    ∙ ap (λ note. notes_of old (take i alerts) ++ cons_option note []) (ap (λ x. note_of x alert) h
    ∙ notes_kept (take i alerts) alert old)
    ∙ sym (notes_more old (take i alerts) alert) ∙ ap (λ a. notes_of old (take i alerts ++ a ∷ [])) is
    ∙ ap (notes_of old) (sym (take_more alerts i alert below))

-- a refusal leaves a front
pub heard_front : (alerts : List Alert) (i : ℕ) (old now : List Hearer) → now ≡ told_all (take i alerts) old
    → HearsFront alerts old now
heard_front alerts i old now h =
    record { front = take i alerts; rest = drop i alerts; cut = sym (take-append-drop i alerts); heard = h }

pub refused_front : (alerts : List Alert) (i : ℕ) (alert : Alert) (old before now : List Hearer) → i < length alerts
    → alert ≡ get_or alerts i alert → before ≡ told_all (take i alerts) old → (now ≡ before)
    ⊎ (now ≡ told_all (alert ∷ []) before) → HearsFront alerts old now
refused_front alerts i alert old before now below is h (inl e) = heard_front alerts i old now (e ∙ h)
refused_front alerts i alert old before now below is h (inr e) =
    heard_front alerts (i + 1) old now (e ∙ told_next alerts i alert old before below is h)

-- the value of an element, in the list of values of a list
pub element : {X Y : Type 0} (value : X → Y) (list looked : List X) (i : ℕ) (x : X) → looked ≡ list → i < length looked
    → x ≡ get_or looked i x → (i < length (map value list)) × (value x ≡ get_or (map value list) i (value x))
element value list looked i x same below is =
    subst (λ xs. (i < length (map value xs)) × (value x ≡ get_or (map value xs) i (value x))) same
    (omega (arith, length-map looked value, below), ap value is ∙ sym (get_or-map value looked i x (value x) below))

-- ---- fronts

pub no_front : (alerts : List Alert) (hearers : List Hearer) → HearsFront alerts hearers hearers
no_front alerts hearers = record { front = []; rest = alerts; cut = refl; heard = sym (told_none hearers) }

-- a front of more alerts, after some
pub front_after : (done more : List Alert) (first old new : List Hearer) → old ≡ told_all done first
    → HearsFront more old new → HearsFront (done ++ more) first new
front_after done more first old new e h = record {
  front = done ++ h.front;
  rest = h.rest;
  cut = ap (λ xs. done ++ xs) h.cut ∙ sym (append_assoc done h.front h.rest);
  heard = h.heard ∙ ap (told_all h.front) e ∙ told_more done h.front first;
}

-- a front is one of more alerts
pub front_of_more : (alerts more : List Alert) (old new : List Hearer) → HearsFront alerts old new
    → HearsFront (alerts ++ more) old new
front_of_more alerts more old new h =
    record {
      front = h.front;
      rest = h.rest ++ more;
      cut =
          ap (λ xs. xs ++ more) h.cut ∙ append_assoc h.front h.rest more;
      heard = h.heard;
    }
