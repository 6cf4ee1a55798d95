-- What two deliveries do together.
use Rattle.std.proofs.Common.{◌≡◌, ℕ, ◌+◌, ◌<◌, List, [], ◌∷◌, ◌++◌, length, get_or, take, flat_map, map, refl, sym, ap}
use Rattle.std.proofs.Common.{◌∙◌, append_assoc, filter}
use Rattle.std.specs.List.{cons_option}
use Rattle.std.proofs.lemmas.List.{flat_map_more, map-append, take_more}
use Rattle.std.proofs.lemmas.List.Elements.{filter-append, filter_map-append}
use Rattle.clip_model.specs.Alerts.{Alert}
use Rattle.clip_listen.specs.Heard.{Hearer, NoteValue, is_for, told, told_all, note_of, notes_of}
use Rattle.clip_listen.proofs.Hearing.{notes_kept}

abbrev with_heard : Hearer → List Alert → Hearer
with_heard l heard = record { name = l.name; style = l.style; heard = heard; keeps = l.keeps }

told_both : (first more : List Alert) (l : Hearer) → told more (told first l) ≡ told (first ++ more) l
told_both first more l =
    ap (with_heard l) (append_assoc l.heard (filter (is_for l.name) first) (filter (is_for l.name) more)
    ∙ ap (λ xs. l.heard ++ xs) (sym (filter-append (is_for l.name) first more)))

-- telling some alerts and then more is telling them all
all_told : (first more : List Alert) (hearers : List Hearer) → told_all more (told_all first hearers)
    ≡ told_all (first ++ more) hearers
all_told first more [] = refl
all_told first more (l ∷ ls) =
    ap (λ x. x ∷ told_all more (told_all first ls)) (told_both first more l)
    ∙ ap (λ xs. told (first ++ more) l ∷ xs) (all_told first more ls)

-- what was heard changes no note
all_notes : (first more : List Alert) (hearers : List Hearer)
    → notes_of hearers first ++ notes_of (told_all first hearers) more ≡ notes_of hearers (first ++ more)
all_notes first more hearers = ap (λ notes. notes_of hearers first ++ notes) (same more)
    ∙ sym (filter_map-append (note_of hearers) first more)
  where
    same : (alerts : List Alert) → notes_of (told_all first hearers) alerts ≡ notes_of hearers alerts
    same [] = refl
    same (alert ∷ alerts) = ap (λ note. cons_option note (notes_of (told_all first hearers) alerts))
        (notes_kept first alert hearers) ∙ ap (cons_option (note_of hearers alert)) (same alerts)

-- what the first elements give, and then the next one
pub one_more : {X : Type 0} (f : X → List Alert) (xs : List X) (i : ℕ) (x : X) → i < length xs → x ≡ get_or xs i x
    → flat_map f (take i xs) ++ f x ≡ flat_map f (take (i + 1) xs)
one_more f xs i x below is =
    flat_map_more f [] (take i xs) x ∙ ap (λ y. flat_map f (take i xs ++ y ∷ [])) is
    ∙ ap (flat_map f) (sym (take_more xs i x below))

-- after the first alerts those that were found are told, which are an article's own
pub told_then : (first found own due : List Alert) (old before now : List Hearer) → found ≡ own → first ++ own ≡ due
    → before ≡ told_all first old → now ≡ told_all found before → now ≡ told_all due old
told_then first found own due old before now is joined earlier told =
    told ∙ ap (λ alerts. told_all alerts before) is ∙ ap (told_all own) earlier ∙ all_told first own old
    ∙ ap (λ alerts. told_all alerts old) joined

-- and their notes come after the first ones
pub notes_then : {X : Type 0} (value : X → NoteValue) (all notes said : List X) (first found own due : List Alert)
    (old before : List Hearer) → found ≡ own → first ++ own ≡ due → before ≡ told_all first old
    → map value notes ≡ notes_of old first → map value said ≡ notes_of before found → all ≡ notes ++ said
    → map value all ≡ notes_of old due
notes_then value all notes said first found own due old before is joined earlier noted answered added =
    ap (map value) added ∙ map-append value notes said ∙ ap (λ ns. ns ++ map value said) noted
    ∙ ap (λ ns. notes_of old first ++ ns) (answered ∙ ap (notes_of before) is
    ∙ ap (λ hearers. notes_of hearers own) earlier)
    ∙ all_notes first own old ∙ ap (notes_of old) joined
