-- The reply to a match, article by article.
use Rattle.std.proofs.Common.{◌≡◌, ℕ, ◌+◌, ◌<◌, List, ◌++◌, length, get_or, take, map, nat_lt, Bool, false, Option}
use Rattle.std.proofs.Common.{refl, sym, ap, ap₂, ◌∙◌, subst, append_assoc}
use Rattle.std.specs.Arc.{arc_str_bytes}
use Rattle.clip_standing.specs.Alerts.{AlertsValue}
use Rattle.clip_stream.specs.Device.{AppendsFront, HandsOver}
use Rattle.clip_stream.proofs.Flows.{front_behind, front_longer}
use Rattle.clip_listen.specs.Heard.{Hearer, note_value, notes_of}
use Rattle.clip_listen.specs.declared.note.Note.{Note}
use Rattle.clip_listen.proofs.Hearing.{element}
use Rattle.clip_protocol.specs.Reply.{alerts_data, matched, reply_text, texts_said}
use Rattle.clip_stream.specs.declared.form.Form.{Form}
use Rattle.clip_protocol.specs.Steps.Flowing.{Data, closing, item_text, items_begun, opening, shown_data}
use Rattle.clip_protocol.specs.Steps.Views.{alerts_by_id}
use Rattle.clip_protocol.proofs.Printed.{items_front, items_next, reply_articles}
use Rattle.clip_front.specs.Steps.Found.{told_in, found_text}
use Rattle.clip_front.proofs.Found.{texts_of_notes}

-- what is put of the reply when the first articles are
abbrev pub begun_text : List Data → ℕ → List ℕ
begun_text ds i = opening ++ items_begun false (take i ds)

pub text_next : (ds : List Data) (i : ℕ) (d : Data) → i < length ds → d ≡ get_or ds i d
    → begun_text ds i ++ item_text (nat_lt 0 i) d ≡ begun_text ds (i + 1)
text_next ds i d below is = append_assoc opening (items_begun false (take i ds)) (item_text (nat_lt 0 i) d)
    ∙ ap (λ t. opening ++ t) (items_next ds i d below is)

-- what the reply shows of each article
abbrev pub data_of : Form → List AlertsValue → List Data
data_of form vs = shown_data form (map alerts_by_id vs)

-- one article more
pub put_next : (form : Form) (vs : List AlertsValue) (i : ℕ) (v : AlertsValue) → i < length vs → v ≡ get_or vs i v
    → begun_text (data_of form vs) i ++ item_text (nat_lt 0 i) (alerts_data form (alerts_by_id v))
    ≡ begun_text (data_of form vs) (i + 1)
put_next form vs i v below is =
    let shown = element alerts_by_id vs vs i v refl below is in
    let written = element (alerts_data form) (map alerts_by_id vs) (map alerts_by_id vs) i (alerts_by_id v) refl
    shown.0 shown.1 in
    text_next (data_of form vs) i (alerts_data form (alerts_by_id v)) written.0 written.1

pub item_same : (later : Bool) (i : ℕ) (form now : Form) (v w : AlertsValue) → later ≡ nat_lt 0 i → now ≡ form → w ≡ v
    → item_text later (alerts_data now (alerts_by_id w)) ≡ item_text (nat_lt 0 i) (alerts_data form (alerts_by_id v))
item_same later i form now v w e f is = ap (λ b. item_text b (alerts_data now (alerts_by_id w))) e
    ∙ ap₂ (λ k x. item_text (nat_lt 0 i) (alerts_data k (alerts_by_id x))) f is

pub text_whole : (form : Form) (hearers : List Hearer) (n : ℕ) (vs : List AlertsValue) (notes : List Note)
    → map note_value notes ≡ notes_of hearers (told_in vs)
    → (opening ++ items_begun false (data_of form vs)) ++ closing n (map (λ x. arc_str_bytes x.text) notes)
    ≡ found_text form hearers n vs
text_whole form hearers n vs notes said =
    let texts : map (λ x. arc_str_bytes x.text) notes ≡ texts_said hearers (told_in vs) =
    texts_of_notes notes ∙ ap (map (λ x. x.text)) said in
    reply_articles form n (map alerts_by_id vs) (map (λ x. arc_str_bytes x.text) notes)
    ∙ ap (λ ts. reply_text n (matched form (map alerts_by_id vs) ts)) texts

-- what is put is a front of the whole
pub text_front : (form : Form) (hearers : List Hearer) (n : ℕ) (vs : List AlertsValue) (i : ℕ)
    → (rest : List ℕ) × (found_text form hearers n vs ≡ begun_text (data_of form vs) i ++ rest)
text_front form hearers n vs i =
    let ds = data_of form vs in
    let more = items_front ds i in
    let end = closing n (texts_said hearers (told_in vs)) in
    let parts : opening ++ items_begun false ds ≡ begun_text ds i ++ more.0 =
    ap (λ t. opening ++ t) more.1 ∙ sym (append_assoc opening (items_begun false (take i ds)) more.0) in (
      more.0 ++ end,
      sym (reply_articles form n (map alerts_by_id vs) (texts_said hearers (told_in vs)))
          ∙ ap (λ t. t ++ end) parts ∙ append_assoc (begun_text ds i) more.0 end,
    )

-- ---- what was written where it was broken off

-- of what is put next a front was written
pub front_of_whole : (old mid new : Option (List ℕ)) (gathered held first more rest whole : List ℕ)
    → whole ≡ (first ++ more) ++ rest → HandsOver old (gathered ++ first) mid held
    → AppendsFront mid new (held ++ more) → AppendsFront old new (gathered ++ whole)
front_of_whole old mid new gathered held first more rest whole e p f =
    subst (AppendsFront old new) (append_assoc gathered (first ++ more) rest ∙ ap (λ t. gathered ++ t) (sym e))
    (front_longer old new (gathered ++ (first ++ more)) rest (front_behind old mid new gathered held first more p f))

-- a front of the beginning was written
pub front_of_first : (old new : Option (List ℕ)) (gathered first rest whole : List ℕ) → whole ≡ first ++ rest
    → AppendsFront old new (gathered ++ first) → AppendsFront old new (gathered ++ whole)
front_of_first old new gathered first rest whole e f =
    subst (AppendsFront old new) (append_assoc gathered first rest
    ∙ ap (λ t. gathered ++ t) (sym e)) (front_longer old new (gathered ++ first) rest f)
