-- The text of the reply to a match, piece by piece.
use Rattle.std.proofs.Common.{◌≡◌, ℕ, ◌+◌, ◌<◌, suc, List, [], ◌∷◌, ◌++◌, Bool, true, false, codes, decimal, flat_map}
use Rattle.std.proofs.Common.{map, drop, get_or, length, nat_lt, ◌-◌, ◌≤◌, refl, sym, ap, ap₂, ◌∙◌, append_assoc}
use Rattle.std.proofs.Common.{append-nil, add-one, arith, take}
use Rattle.std.proofs.Math.Seq.{drop-cons, take-add}
use Rattle.std.proofs.lemmas.List.{append_cancel_right, drop-map, take-map, take_all, length-drop, length-take}
use Rattle.std.proofs.lemmas.List.{take_more, take-append-drop}
use Rattle.std.proofs.lemmas.Bool.{lt-ltb}
use Rattle.json.specs.Token.{Token, begin_array, end_object, end_array, key, number}
use Rattle.json.specs.Print.{escape_byte, print, print_from, quoted}
use Rattle.json.proofs.Printed.Tokens.{print_from-append}
use Rattle.serde_json.specs.Data.{Data, array, string}
use Rattle.serde_json.specs.View.{items_of}
use Rattle.serde_json.specs.Written.{comma_if, compact_text, items_text, members_text}
use Rattle.serde_json.proofs.Texts.{print-outline}
use Rattle.clip_model.specs.Alerts.{Alert}
use Rattle.clip_stream.specs.declared.form.Form.{Form}
use Rattle.clip_stream.specs.declared.form.Form.TheVariants.{Plain, WithHits}
use Rattle.clip_protocol.specs.declared.found.Found.{Found}
use Rattle.clip_protocol.specs.Found.{found_value}
use Rattle.clip_protocol.specs.Reply as reply
use Rattle.clip_protocol.specs.Reply.{alerts_data, article_data, number_of, printed, reply_text, reply_value}
use Rattle.clip_protocol.specs.Request.{array_of, members_from}
use Rattle.clip_protocol.specs.Steps.Flowing.{closing, item_text, items_begun, opening, shown_data}
use Rattle.clip_protocol.specs.Steps.Printing.{alerts_with_hits, data_tokens, last_tokens}
use Rattle.clip_protocol.specs.Steps.Views.{alerts_by_id}

-- ---- the articles

regroup : (a b c d : List ℕ) → ((a ++ b) ++ c) ++ d ≡ a ++ (b ++ (c ++ d))
regroup a b c d = simp append_assoc

-- what is printed of a value is its text as an item on its own
pub print-item : (d : Data) → print (data_tokens d) ≡ item_text false d
print-item d = print-outline d

-- an article is written after a comma if another stands before it, and those that are left come after it
pub print-next : (form : Form) (all : List Found) (place : ℕ) (found : Found) (before after : List ℕ)
    → place < length all → found ≡ get_or all place found
    → after ≡ (before ++ comma_if (nat_lt 0 place))
    ++ print (data_tokens (alerts_data form (alerts_by_id (found_value found))))
    → after ++ items_text (nat_lt 0 (place + 1))
    (items_of (map (alerts_data form) (map alerts_by_id (map found_value (drop (place + 1) all)))))
    ≡ before ++ items_text (nat_lt 0 place)
    (items_of (map (alerts_data form) (map alerts_by_id (map found_value (drop place all)))))
print-next form all place found before after within is written =
    let shown = alerts_data form (alerts_by_id (found_value found)) in
    let items : Bool → List Found → List ℕ =
    λ later left. items_text later (items_of (map (alerts_data form) (map alerts_by_id (map found_value left)))) in
    let left = drop (place + 1) all in
    let first : drop place all ≡ found ∷ left =
    rw add-one (drop-cons all place found within ∙ ap (λ x. x ∷ drop (suc place) all) (sym is)) in
    let later : nat_lt 0 (place + 1) ≡ true = lt-ltb 0 (place + 1) (omega arith) in
    ap₂ (λ t b. t ++ items b left) (written
    ∙ ap (λ t. (before ++ comma_if (nat_lt 0 place)) ++ t) (print-outline shown)) later
    ∙ regroup before (comma_if (nat_lt 0 place)) (compact_text shown) (items true left)
    ∙ ap (λ l. before ++ items (nat_lt 0 place) l) (sym first)

-- a form shows the same of an article where it is given only the alerts whose hits it shows
pub article-with_hits : (form : Form) (id : List ℕ) (queries : List (List ℕ)) (alerts : List Alert)
    → article_data form id queries (alerts_with_hits form alerts) ≡ article_data form id queries alerts
article-with_hits Plain id queries alerts = refl
article-with_hits WithHits id queries alerts = refl

-- ---- what stands around them

print-end : (later : Bool) → print_from later (end_object ∷ []) ≡ 125 ∷ []
unfolding print_from
print-end true = refl
print-end false = refl

-- a value, and the end of the object that it is the last of
print-last : (d : Data) → print (data_tokens d ++ end_object ∷ []) ≡ compact_text d ++ 125 ∷ []
print-last d = print_from-append false (data_tokens d) (end_object ∷ [])
    ∙ ap₂ (λ a b. a ++ b) (print-outline d) (print-end _)

-- what comes after the last article
pub print-close : (n : ℕ) (d : Data)
    → print (end_array ∷ key (codes "line") ∷ number (decimal n) ∷ key (codes "notes")
    ∷ (data_tokens d ++ end_object ∷ []))
    ≡ 93 ∷ members_text true (members_from ((codes "line", number_of n) ∷ (codes "notes", d) ∷ []))
unfolding print_from escape_byte
print-close n d =
    let around : List ℕ → List ℕ =
    λ s. 93 ∷ 44 ∷ 34 ∷ (codes "line" ++ 34 ∷ 58 ∷ (decimal n ++ 44 ∷ 34 ∷ (codes "notes" ++ 34 ∷ 58 ∷ s))) in
    ap around (print-last d)

-- the beginning, the articles and the end
pub print-whole : (form : Form) (n : ℕ) (found : List (List ℕ × List Alert)) (notes : List (List ℕ))
    (opened text : List ℕ) → opened ≡ 123 ∷ (quoted (codes "alerts") ++ 58 ∷ 91 ∷ [])
    → text ++ 93 ∷ [] ≡ opened ++ items_text false (items_of (map (alerts_data form) found))
    → text ++ 93 ∷ (members_text true
    (members_from ((codes "line", number_of n) ∷ (codes "notes", array_of (map string notes)) ∷ [])) ++ 10 ∷ [])
    ≡ printed (reply_value n (reply.matched form found notes))
unfolding printed reply_value escape_byte
print-whole form n found notes opened text begins closes =
    let items = items_text false (items_of (map (alerts_data form) found)) in
    let members = members_text true
    (members_from ((codes "line", number_of n) ∷ (codes "notes", array_of (map string notes)) ∷ [])) in
    let rest = members ++ 10 ∷ [] in
    let around : List ℕ → List ℕ = λ s. 123 ∷ 34 ∷ (codes "alerts" ++ 34 ∷ 58 ∷ 91 ∷ s) in
    sym (append_assoc text (93 ∷ []) rest) ∙ ap (λ t. t ++ rest) (closes ∙ ap (λ t. t ++ items) begins)
    ∙ ap around (sym (append_assoc items members (10 ∷ [])))

-- ---- item by item

pub items_closed : (later : Bool) (ds : List Data) → items_begun later ds ++ 93 ∷ [] ≡ items_text later (items_of ds)
items_closed later [] = refl
items_closed later (d ∷ ds) =
    append_assoc (item_text later d) (items_begun true ds) (93 ∷ [])
    ∙ ap (λ t. item_text later d ++ t) (items_closed true ds)
    ∙ append_assoc (comma_if later) (compact_text d) (items_text true (items_of ds))

-- whether an item behind these stands behind another
abbrev behind : Bool → List Data → Bool
behind later [] = later
behind later (d ∷ ds) = true

behind_some : (ds : List Data) → behind false ds ≡ nat_lt 0 (length ds)
behind_some [] = refl
behind_some (d ∷ ds) = sym (lt-ltb 0 (suc (length ds)) (omega arith))

items_append : (later : Bool) (ds more : List Data) → items_begun later (ds ++ more)
    ≡ items_begun later ds ++ items_begun (behind later ds) more
items_append later [] more = refl
items_append later (d ∷ ds) more =
    ap (λ t. item_text later d ++ t) (items_append true ds more
    ∙ ap (λ b. items_begun true ds ++ items_begun b more) (behind_true ds))
    ∙ sym (append_assoc (item_text later d) (items_begun true ds) (items_begun true more))
  where
    behind_true : (ds : List Data) → behind true ds ≡ true
    behind_true [] = refl
    behind_true (d ∷ ds) = refl

-- one item more
pub items_next : (ds : List Data) (i : ℕ) (d : Data) → i < length ds → d ≡ get_or ds i d
    → items_begun false (take i ds) ++ item_text (nat_lt 0 i) d ≡ items_begun false (take (i + 1) ds)
items_next ds i d below is =
    let first = take i ds in
    let before : length first ≡ i = length-take i ds ∙ omega (arith, below) in
    ap (λ b. items_begun false first ++ item_text b d) (ap (nat_lt 0) (sym before) ∙ sym (behind_some first))
    ∙ ap (λ t. items_begun false first ++ t) (sym (append-nil (item_text (behind false first) d)))
    ∙ sym (items_append false first (d ∷ []))
    ∙ ap (λ w. items_begun false (first ++ w ∷ [])) is
    ∙ ap (items_begun false) (sym (take_more ds i d below))

-- the first items are a front of all
pub items_front : (ds : List Data) (i : ℕ)
    → (rest : List ℕ) × (items_begun false ds ≡ items_begun false (take i ds) ++ rest)
items_front ds i = (
  items_begun (behind false (take i ds)) (drop i ds),
  ap (items_begun false) (sym (take-append-drop i ds)) ∙ items_append false (take i ds) (drop i ds),
)

-- the whole reply to a match
pub reply_articles : (form : Form) (n : ℕ) (found : List (List ℕ × List Alert)) (notes : List (List ℕ))
    → (opening ++ items_begun false (shown_data form found)) ++ closing n notes
    ≡ reply_text n (reply.matched form found notes)
reply_articles form n found notes =
    print-whole form n found notes opening (opening ++ items_begun false (shown_data form found)) refl
    (append_assoc opening (items_begun false (shown_data form found)) (93 ∷ [])
    ∙ ap (λ t. opening ++ t) (items_closed false (shown_data form found)))

-- ---- pieces of an array

-- the tokens of an array's items, and the end of it
pub each_closed : (ds : List Data) → flat_map data_tokens ds ++ end_array ∷ [] ≡ last_tokens ds
each_closed [] = refl
each_closed (d ∷ ds) = append_assoc (data_tokens d) (flat_map data_tokens ds) (end_array ∷ [])
    ∙ ap (λ ts. data_tokens d ++ ts) (each_closed ds)

-- an array behind other tokens
pub array_tokens : (before : List Token) (ds : List Data)
    → ((before ++ begin_array ∷ []) ++ flat_map data_tokens ds) ++ end_array ∷ [] ≡ before ++ data_tokens (array_of ds)
array_tokens before ds =
    append_assoc (before ++ begin_array ∷ []) (flat_map data_tokens ds) (end_array ∷ [])
    ∙ append_assoc before (begin_array ∷ []) (flat_map data_tokens ds ++ end_array ∷ [])
    ∙ ap (λ ts. before ++ begin_array ∷ ts) (each_closed ds)

print-end_array : (later : Bool) → print_from later (end_array ∷ []) ≡ 93 ∷ []
unfolding print_from
print-end_array true = refl
print-end_array false = refl

print-last_tokens : (ds : List Data) → print (last_tokens ds) ≡ items_text false (items_of ds)
unfolding print_from
print-last_tokens ds = ap (drop 1) (print-outline (array (items_of ds)))

-- what is printed of an array's items, without its brackets
pub print-each : (ds : List Data) → print (flat_map data_tokens ds) ≡ items_begun false ds
print-each ds =
    append_cancel_right (print (flat_map data_tokens ds)) (items_begun false ds) (93 ∷ [])
    (ap (λ t. print (flat_map data_tokens ds) ++ t) (sym (print-end_array _))
    ∙ sym (print_from-append false (flat_map data_tokens ds) (end_array ∷ []))
    ∙ ap print (each_closed ds) ∙ print-last_tokens ds ∙ sym (items_closed false ds))

-- items behind others
items_behind : (later : Bool) (ds : List Data) → 0 < length ds
    → items_begun later ds ≡ comma_if later ++ items_begun false ds
items_behind later [] some = absurd (omega arith)
items_behind later (d ∷ ds) some = append_assoc (comma_if later) (compact_text d) (items_begun true ds)

-- the items from one place on up to another are put behind those before them
pub items_piece : (ds : List Data) (i j : ℕ) → i < j → j ≤ length ds
    → items_begun false (take i ds) ++ (comma_if (nat_lt 0 i) ++ items_begun false (take (j - i) (drop i ds)))
    ≡ items_begun false (take j ds)
items_piece ds i j below within =
    let first = take i ds in
    let piece = take (j - i) (drop i ds) in
    let before : length first ≡ i = length-take i ds ∙ omega arith in
    let some : 0 < length piece = omega (arith, length-take (j - i) (drop i ds), length-drop i ds) in
    let both : first ++ piece ≡ take j ds = sym (take-add i (j - i) ds) ∙ ap (λ n. take n ds) (omega arith) in
    ap (λ t. items_begun false first ++ t) (sym (items_behind (nat_lt 0 i) piece some)
    ∙ ap (λ b. items_begun b piece) (ap (nat_lt 0) (sym before) ∙ sym (behind_some first)))
    ∙ sym (items_append false first piece) ∙ ap (items_begun false) both

-- the items up to a place are a front of the array
pub array_front : (ds : List Data) (i : ℕ)
    → (rest : List ℕ) × (compact_text (array_of ds) ≡ (91 ∷ items_begun false (take i ds)) ++ rest)
array_front ds i =
    let front = items_front ds i in (
      front.0 ++ 93 ∷ [],
      ap (λ t. 91 ∷ t) (sym (items_closed false ds) ∙ ap (λ t. t ++ 93 ∷ []) front.1
          ∙ append_assoc (items_begun false (take i ds)) front.0 (93 ∷ [])),
    )

-- a piece of a list, as something else
pub piece_mapped : {A B : Type 0} (f : A → B) (xs : List A) (n i : ℕ)
    → map f (take n (drop i xs)) ≡ take n (drop i (map f xs))
piece_mapped f xs n i = sym (take-map f n (drop i xs)) ∙ ap (take n) (sym (drop-map f i xs))

-- no item is left
pub items_all : (ds : List Data) (i : ℕ) → length ds ≤ i → items_begun false (take i ds) ≡ items_begun false ds
items_all ds i past = ap (items_begun false) (take_all i ds past)
