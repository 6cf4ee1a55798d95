-- A value has no fault of shape exactly where it is a request's.
use Rattle.std.proofs.Common.{◌≡◌, ℕ, suc, List, [], ◌∷◌, map, Option, Some, None, refl, sym, ap, ◌∙◌}
use Rattle.serde_json.specs.Data.{Data, string}
use Rattle.serde_json.specs.View.{items_of}
use Rattle.clip_protocol.proofs.RequestLaw.{value_of-request_of}
use Rattle.clip_protocol.specs.Request.{Listing, Draft, Request, register, delete, clear, purge, count, show, match}
use Rattle.clip_protocol.specs.Request.{members_from, listing_value, field_value, draft_value, value_of}
use Rattle.clip_protocol.specs.Steps.Outline.{request_of}
use Rattle.clip_cause.specs.Names.{ids, queries, articles, fields}
use Rattle.clip_cause.specs.Faults.{Fault, beneath, in_item, or_else}
use Rattle.clip_cause.specs.Shapes.{text_fault, query_fault, field_texts, article_fault, items_fault, shape_fault}
use Rattle.clip_cause.proofs.Options.{some_is_none}

-- ---- the value of a request has no fault

items_none : {A : Type 0} (list : List ℕ) (fault : Data → Option Fault) (value : A → Data)
    → ((x : A) → fault (value x) ≡ None) → (place : ℕ) (xs : List A)
    → items_fault list fault place (items_of (map value xs)) ≡ None
items_none list fault value one place [] = refl
items_none list fault value one place (x ∷ xs) =
    ap (λ o. or_else (in_item list place o) (items_fault list fault (suc place) (items_of (map value xs)))) (one x)
    ∙ items_none list fault value one (suc place) xs

query_none : (l : Listing) → query_fault (listing_value l) ≡ None
query_none l = elim l.listener
    as (λ o. query_fault (listing_value (record { id = l.id; query = l.query; listener = o })) ≡ None) [
      | None ↦
          refl
      | Some name ↦ refl
    ]

field_texts_none : (fs : List (List ℕ × List ℕ)) → field_texts (members_from (map field_value fs)) ≡ None
field_texts_none [] = refl
field_texts_none (f ∷ fs) = field_texts_none fs

article_none : (d : Draft) → article_fault (draft_value d) ≡ None
article_none d = ap (λ o. or_else (beneath fields o) None) (field_texts_none d.fields)

pub shape_none : (r : Request) → shape_fault (value_of r) ≡ None
unfolding shape_fault
shape_none (register listings) = items_none queries query_fault listing_value query_none 0 listings
shape_none (delete listed) = items_none ids text_fault string (λ s. refl) 0 listed
shape_none clear = refl
shape_none purge = refl
shape_none count = refl
shape_none (show id) = refl
shape_none (match drafts) = items_none articles article_fault draft_value article_none 0 drafts

-- a value with a fault is no request's
pub unread_from_fault : (d : Data) (f : Fault) (o : Option Request) → shape_fault d ≡ Some f → request_of d ≡ o
    → o ≡ None
unread_from_fault d f None e is = refl
unread_from_fault d f (Some r) e is =
    absurd (some_is_none f (sym e ∙ ap shape_fault (value_of-request_of d r is) ∙ shape_none r))
