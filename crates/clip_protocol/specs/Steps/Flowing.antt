-- The text of the reply to a match, piece by piece.
use Rattle.std.specs.Prelude.{ℕ, List, [], ◌∷◌, ◌++◌, Bool, true, codes, map}
use Rattle.json.specs.Print.{quoted}
pub use Rattle.serde_json.specs.Data.{Data}
use Rattle.serde_json.specs.Data.{string}
use Rattle.serde_json.specs.Written.{comma_if, compact_text, members_text}
use Rattle.clip_model.specs.Alerts.{Alert}
use Rattle.clip_protocol.specs.Reply.{alerts_data, hits_data, number_of}
use Rattle.clip_protocol.specs.Request.{array_of, members_from}
use Rattle.clip_stream.specs.declared.form.Form.{Form}
use Rattle.clip_stream.specs.declared.form.Form.TheVariants.{Plain, WithHits}

-- an item of an array, after a comma where it stands behind another
abbrev pub item_text : Bool → Data → List ℕ
item_text later d = comma_if later ++ compact_text d

-- an array's first items, with commas between
abbrev pub items_begun : Bool → List Data → List ℕ
items_begun later [] = []
items_begun later (d ∷ ds) = item_text later d ++ items_begun true ds

-- what is shown of the article of this id before its alerts
abbrev pub article_begun : List ℕ → List ℕ
article_begun id = 123 ∷ (quoted (codes "article") ++ 58 ∷ quoted id)

-- the member behind it that tells in a form where the queries hold
abbrev pub hits_member : Form → List Alert → List ℕ
hits_member Plain alerts = []
hits_member WithHits alerts = 44 ∷ (quoted (codes "hits") ++ 58 ∷ compact_text (hits_data alerts))

-- what stands before the first article
abbrev pub opening : List ℕ
opening = 123 ∷ (quoted (codes "alerts") ++ 58 ∷ 91 ∷ [])

-- what is shown of each article
abbrev pub shown_data : Form → List (List ℕ × List Alert) → List Data
shown_data form found = map (alerts_data form) found

-- what stands behind the last article of the reply to line n
abbrev pub closing : ℕ → List (List ℕ) → List ℕ
closing n notes = 93 ∷ (members_text true (members_from
    ((codes "line", number_of n) ∷ (codes "notes", array_of (map string notes)) ∷ [])) ++ 10 ∷ [])
