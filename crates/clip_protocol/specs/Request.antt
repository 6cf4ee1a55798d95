-- What a line may ask for, and the JSON value by which it asks.
use Rattle.std.specs.Prelude.{ℕ, ◌&&◌, List, [], ◌∷◌, length, map, Bool, true, nat_le, codes, Option, Some, None}
use Rattle.std.specs.List.{list_all}
use Rattle.serde_json.specs.Data.{Data, string, array, object, Members, no_members, member}
use Rattle.serde_json.specs.View.{items_of}
use Rattle.clip_meaning.specs.Article.{may_be}
use Rattle.clip_model.specs.declared.limits.TheConstants.{MOST_LISTED}
use Rattle.clip_words.specs.Ids.{is_id}
use Rattle.clip_model.specs.declared.limits.TheConstants.{MOST_ARTICLES}

-- a query that a register lists, with the name of its listener, if it has one
pub record Listing : Type 0 where
  pub id : List ℕ
  pub query : List ℕ
  pub listener : Option (List ℕ)

-- an article that a match lists: its id, and of each field the name and the text, in the byte order of the names
pub record Draft : Type 0 where
  pub id : List ℕ
  pub fields : List (List ℕ × List ℕ)

pub data Request : Type 0 where
  register : List Listing → Request
  delete : List (List ℕ) → Request
  clear : Request
  purge : Request
  count : Request
  show : List ℕ → Request
  match : List Draft → Request

-- ---- the value that asks for it

-- Objects have each name once, and list their members in the byte order of the names: so does the reading of
-- `serde_json`.
abbrev pub members_from : List (List ℕ × Data) → Members
members_from [] = no_members
members_from (m ∷ ms) = member m.0 m.1 (members_from ms)

abbrev pub object_of : List (List ℕ × Data) → Data
object_of ms = object (members_from ms)

abbrev pub array_of : List Data → Data
array_of ds = array (items_of ds)

-- the member for a listener, if there is one, before the others
abbrev pub with_listener : Option (List ℕ) → List (List ℕ × Data) → List (List ℕ × Data)
with_listener None ms = ms
with_listener (Some name) ms = (codes "listener", string name) ∷ ms

abbrev pub listing_value : Listing → Data
listing_value l = object_of ((codes "id", string l.id)
    ∷ with_listener l.listener ((codes "query", string l.query) ∷ []))

abbrev pub field_value : List ℕ × List ℕ → List ℕ × Data
field_value f = (f.0, string f.1)

abbrev pub draft_value : Draft → Data
draft_value d = object_of ((codes "fields", object_of (map field_value d.fields)) ∷ (codes "id", string d.id) ∷ [])

abbrev pub value_of : Request → Data
value_of (register listings) =
    object_of ((codes "op", string (codes "register")) ∷ (codes "queries", array_of (map listing_value listings)) ∷ [])
value_of (delete ids) = object_of
    ((codes "ids", array_of (map string ids)) ∷ (codes "op", string (codes "delete")) ∷ [])
value_of clear = object_of ((codes "op", string (codes "clear")) ∷ [])
value_of purge = object_of ((codes "op", string (codes "purge")) ∷ [])
value_of count = object_of ((codes "op", string (codes "count")) ∷ [])
value_of (show id) = object_of ((codes "id", string id) ∷ (codes "op", string (codes "show")) ∷ [])
value_of (match drafts) = object_of
    ((codes "articles", array_of (map draft_value drafts)) ∷ (codes "op", string (codes "match")) ∷ [])

-- ---- limits

abbrev pub within : Request → Bool
within (register listings) = nat_le (length listings) MOST_LISTED && list_all (λ l. is_id l.id) listings
within (delete ids) = nat_le (length ids) MOST_LISTED && list_all is_id ids
within clear = true
within purge = true
within count = true
within (show id) = is_id id
within (match drafts) = nat_le (length drafts) MOST_ARTICLES && list_all (λ d. may_be d.id d.fields) drafts
