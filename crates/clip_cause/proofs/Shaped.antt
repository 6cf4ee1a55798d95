-- A value whose shape has no fault is a request's.
use Rattle.std.proofs.Common.{◌≡◌, ◌⊎◌, inl, inr, ℕ, suc, List, [], ◌∷◌, map, true, Option, Some, None, bytes_eq, refl}
use Rattle.std.proofs.Common.{sym, ap, ap₂, subst, ◌∙◌}
use Rattle.std.proofs.lemmas.Slice.Eq.{bytes_eq-Decides}
use Rattle.std.specs.Prelude.{codes, is_some}
use Rattle.serde_json.specs.Data.{Data, null, boolean, number, string, array, object, Items, no_items, item, Members}
use Rattle.serde_json.specs.Data.{no_members, member}
use Rattle.serde_json.specs.Find.{get, get_member, as_str, as_object}
use Rattle.serde_json.specs.View.{items_of}
use Rattle.clip_protocol.proofs.RequestLaw.{named_by, none_is_some, text_is, request_of-value_of}
use Rattle.clip_protocol.specs.Request.{Listing, Draft, Request, register, delete, clear, purge, count, show, match}
use Rattle.clip_protocol.specs.Request.{members_from, listing_value, field_value, draft_value, value_of}
use Rattle.clip_protocol.specs.Steps.Outline.{request_of}
use Rattle.clip_cause.specs.Names as operation
use Rattle.clip_cause.specs.Names.{Operation, name_of, operation_of, ids, queries, articles, fields, query_names}
use Rattle.clip_cause.specs.Names.{query_needs, article_names, line_names}
use Rattle.clip_cause.specs.Path.{to_member}
use Rattle.clip_cause.specs.Steps.Ordered.{IsOrdered, AreOrdered, AreMembersOrdered}
use Rattle.clip_cause.specs.Faults.{Fault, in_item}
use Rattle.clip_cause.specs.Shapes.{names_fault, text_fault, texts_fault, query_fault, field_texts, fields_by}
use Rattle.clip_cause.specs.Shapes.{fields_in, article_fault, items_fault, list_fault, list_in, line_names_fault}
use Rattle.clip_cause.specs.Shapes.{content_fault, asked_by, word_by, op_by, shape_fault}
use Rattle.clip_cause.proofs.KnownMembers.{Begins, Lacks, begins, begins_there, none_known, named_well, needed_first}
use Rattle.clip_cause.proofs.KnownMembers.{needed_behind, one_member, two_members}
use Rattle.clip_cause.proofs.Options.{some_is_none, passed, both_none, none_mapped, held}

-- ---- texts

text_held : (d : Data) → is_some (as_str d) ≡ true → (s : List ℕ) × (d ≡ string s)
text_held d h = let w = held (as_str d) h in (w.0, text_is d w.0 w.1)

text_shaped : (d : Data) → text_fault d ≡ None → (s : List ℕ) × (d ≡ string s)
text_shaped null e = absurd (some_is_none _ e)
text_shaped (boolean b) e = absurd (some_is_none _ e)
text_shaped (number n) e = absurd (some_is_none _ e)
text_shaped (string s) e = (s, refl)
text_shaped (array ds) e = absurd (some_is_none _ e)
text_shaped (object ms) e = absurd (some_is_none _ e)

-- ---- listed queries

plain : (x y : Data) → texts_fault query_names (object (member (codes "id") x (member (codes "query") y no_members)))
    ≡ None → (l : Listing) × (object (member (codes "id") x (member (codes "query") y no_members)) ≡ listing_value l)
plain x y e =
    let p = passed (is_some (as_str x)) _ _ e in
    let q = passed (is_some (as_str y)) _ _ p.1 in
    let id = text_held x p.0 in
    let text = text_held y q.0 in (
      record { id = id.0; query = text.0; listener = None },
      ap₂ (λ a b. object (member (codes "id") a (member (codes "query") b no_members))) id.1 text.1,
    )

heard : (x z y : Data) → texts_fault query_names
    (object (member (codes "id") x (member (codes "listener") z (member (codes "query") y no_members)))) ≡ None
    → (l : Listing) × (object
    (member (codes "id") x (member (codes "listener") z (member (codes "query") y no_members))) ≡ listing_value l)
heard x z y e =
    let p = passed (is_some (as_str x)) _ _ e in
    let q = passed (is_some (as_str z)) _ _ p.1 in
    let r = passed (is_some (as_str y)) _ _ q.1 in
    let id = text_held x p.0 in
    let name = text_held z q.0 in
    let text = text_held y r.0 in (
      record { id = id.0; query = text.0; listener = Some name.0 },
      ap₂ (λ a b. object (member (codes "id") a (member (codes "listener") b (member (codes "query") y no_members))))
          id.1 name.1
          ∙ ap (λ b. object (member (codes "id") (string id.0)
          (member (codes "listener") (string name.0) (member (codes "query") b no_members)))) text.1,
    )

-- what stands behind the id
behind_id : (x : Data) (rest : Members) → texts_fault query_names (object (member (codes "id") x rest)) ≡ None
    → is_some (get_member (codes "query") rest) ≡ true → AreMembersOrdered rest
    → Begins (codes "listener") (codes "query" ∷ []) rest ⊎ Lacks (codes "listener") (codes "query" ∷ []) rest
    → (l : Listing) × (object (member (codes "id") x rest) ≡ listing_value l)
behind_id x rest e has h (inl b) =
    let two = begins_there (codes "query") [] b.rest tt b.ordered.1 b.known
    (needed_behind (codes "listener") (codes "query") b.value rest b.rest refl b.is has) in
    let is : rest ≡ member (codes "listener") b.value (member (codes "query") two.value no_members) =
    b.is ∙ ap (member (codes "listener") b.value) (two.is
    ∙ ap (member (codes "query") two.value) (none_known two.rest two.known)) in
    let w = heard x b.value two.value (subst (λ ms. texts_fault query_names (object (member (codes "id") x ms))
    ≡ None) is e) in
    (w.0, ap (λ ms. object (member (codes "id") x ms)) is ∙ w.1)
behind_id x rest e has h (inr l) =
    let two = begins_there (codes "query") [] rest tt h l.known has in
    let is : rest ≡ member (codes "query") two.value no_members =
    two.is ∙ ap (member (codes "query") two.value) (none_known two.rest two.known) in
    let w = plain x two.value (subst (λ ms. texts_fault query_names (object (member (codes "id") x ms)) ≡ None) is e) in
    (w.0, ap (λ ms. object (member (codes "id") x ms)) is ∙ w.1)

query_shaped : (d : Data) → IsOrdered d → query_fault d ≡ None → (l : Listing) × (d ≡ listing_value l)
query_shaped d h e =
    let parts = both_none (names_fault query_needs query_names d) (texts_fault query_names d) e in
    let w = named_well query_needs query_names d parts.0 in
    let p = needed_first (codes "id") (codes "query" ∷ []) (object w.members) w.needs in
    let q = needed_first (codes "query") [] (object w.members) p.1 in
    let one = begins_there (codes "id") (codes "listener" ∷ codes "query" ∷ []) w.members (refl, (refl, tt))
    (subst IsOrdered w.is h) w.knows p.0 in
    let is : d ≡ object (member (codes "id") one.value one.rest) = w.is ∙ ap object one.is in
    let found = behind_id one.value one.rest (subst (λ v. texts_fault query_names v ≡ None) is parts.1)
    (needed_behind (codes "id") (codes "query") one.value w.members one.rest refl one.is q.0)
    one.ordered.1 (begins (codes "listener") (codes "query" ∷ []) one.rest (refl, tt) one.ordered.1 one.known) in
    (found.0, is ∙ found.1)

-- ---- listed articles

fields_shaped : (ms : Members) → field_texts ms ≡ None → (fs : List (List ℕ × List ℕ))
    × (ms ≡ members_from (map field_value fs))
fields_shaped no_members e = ([], refl)
fields_shaped (member k d ms) e =
    let p = passed (is_some (as_str d)) (field_texts ms) _ e in
    let text = text_held d p.0 in
    let more = fields_shaped ms p.1 in
    ((k, text.0) ∷ more.0, ap₂ (member k) text.1 more.1)

fields_held : (d : Data) → fields_by (as_object d) ≡ None → (fs : List (List ℕ × List ℕ))
    × (d ≡ object (members_from (map field_value fs)))
fields_held null e = absurd (some_is_none _ e)
fields_held (boolean b) e = absurd (some_is_none _ e)
fields_held (number n) e = absurd (some_is_none _ e)
fields_held (string s) e = absurd (some_is_none _ e)
fields_held (array ds) e = absurd (some_is_none _ e)
fields_held (object ms) e = let w = fields_shaped ms e in (w.0, ap object w.1)

article_shaped : (d : Data) → IsOrdered d → article_fault d ≡ None → (a : Draft) × (d ≡ draft_value a)
article_shaped d h e =
    let parts = both_none (names_fault article_names article_names d) _ e in
    let two = two_members fields (codes "id") d refl h parts.0 in
    let rest = both_none (fields_in d) (texts_fault (codes "id" ∷ []) d) parts.1 in
    let held_fields = fields_held two.first
    (none_mapped (λ f. (to_member fields ∷ f.0, f.1)) (fields_by (as_object two.first))
    (subst (λ v. fields_in v ≡ None) two.is rest.0)) in
    let p = passed (is_some (as_str two.second)) _ _
    (subst (λ v. texts_fault (codes "id" ∷ []) v ≡ None) two.is rest.1) in
    let id = text_held two.second p.0 in (
      record { id = id.0; fields = held_fields.0 },
      two.is
          ∙ ap₂ (λ a b. object (member fields a (member (codes "id") b no_members))) held_fields.1 id.1,
    )

-- ---- lists

items_shaped : {A : Type 0} (list : List ℕ) (fault : Data → Option Fault) (value : A → Data)
    → ((d : Data) → IsOrdered d → fault d ≡ None → (x : A) × (d ≡ value x)) → (place : ℕ) (ds : Items) → AreOrdered ds
    → items_fault list fault place ds ≡ None
    → (xs : List A) × (ds ≡ items_of (map value xs))
items_shaped list fault value one place no_items h e = ([], refl)
items_shaped list fault value one place (item d ds) h e =
    let p = both_none (in_item list place (fault d)) (items_fault list fault (suc place) ds) e in
    let first = one d h.0 (none_mapped _ (fault d) p.0) in
    let more = items_shaped list fault value one (suc place) ds h.1 p.1 in
    (first.0 ∷ more.0, ap₂ item first.1 more.1)

list_shaped : {A : Type 0} (list : List ℕ) (fault : Data → Option Fault) (value : A → Data)
    → ((d : Data) → IsOrdered d → fault d ≡ None → (x : A) × (d ≡ value x)) → (d : Data) → IsOrdered d
    → list_fault list fault d ≡ None
    → (xs : List A) × (d ≡ array (items_of (map value xs)))
list_shaped list fault value one null h e = absurd (some_is_none _ e)
list_shaped list fault value one (boolean b) h e = absurd (some_is_none _ e)
list_shaped list fault value one (number n) h e = absurd (some_is_none _ e)
list_shaped list fault value one (string s) h e = absurd (some_is_none _ e)
list_shaped list fault value one (array ds) h e = let w = items_shaped list fault value one 0 ds h e in
    (w.0, ap array w.1)
list_shaped list fault value one (object ms) h e = absurd (some_is_none _ e)

-- ---- operations

pub name_is : (word : List ℕ) (o : Operation) → operation_of word ≡ Some o → word ≡ name_of o
name_is word o e =
    named_by name_of (bytes_eq word (codes "register")) word operation.register _ o
    (bytes_eq-Decides word (codes "register")).0
    (named_by name_of (bytes_eq word (codes "delete")) word operation.delete _ o
    (bytes_eq-Decides word (codes "delete")).0
    (named_by name_of (bytes_eq word (codes "clear")) word operation.clear _ o (bytes_eq-Decides word (codes "clear")).0
    (named_by name_of (bytes_eq word (codes "purge")) word operation.purge _ o (bytes_eq-Decides word (codes "purge")).0
    (named_by name_of (bytes_eq word (codes "count")) word operation.count _ o (bytes_eq-Decides word (codes "count")).0
    (named_by name_of (bytes_eq word (codes "show")) word operation.show _ o (bytes_eq-Decides word (codes "show")).0
    (named_by name_of (bytes_eq word (codes "match")) word operation.match None o
    (bytes_eq-Decides word (codes "match")).0 (λ none. absurd (none_is_some o none)))))))) e

-- the operation that the value asks for, where its names and what they hold have no fault
pub record IsAsked (d : Data) : Type 0 where
  pub asked : Operation
  pub word : get (codes "op") d ≡ Some (string (name_of asked))
  pub names : line_names_fault asked d ≡ None
  pub content : content_fault asked d ≡ None

asks_at_op : (d : Data) (e : Data) (word : List ℕ) (o : Option Operation) → get (codes "op") d ≡ Some e
    → e ≡ string word → operation_of word ≡ o → asked_by d o ≡ None → IsAsked d
asks_at_op d e word None there is found none = absurd (some_is_none _ none)
asks_at_op d e word (Some o) there is found none =
    let p = both_none (line_names_fault o d) (content_fault o d) none in
    record { asked = o; word = there ∙ ap Some (is ∙ ap string (name_is word o found)); names = p.0; content = p.1 }

asks_at_word : (d : Data) (e : Data) (word : Option (List ℕ)) → get (codes "op") d ≡ Some e → as_str e ≡ word
    → word_by d word ≡ None → IsAsked d
asks_at_word d e None there is none = absurd (some_is_none _ none)
asks_at_word d e (Some word) there is none = asks_at_op d e word (operation_of word) there (text_is e word is) refl none

asks_at : (d : Data) (o : Option Data) → get (codes "op") d ≡ o → op_by d o ≡ None → IsAsked d
asks_at d None there none = absurd (some_is_none _ none)
asks_at d (Some e) there none = asks_at_word d e (as_str e) there refl none

asks : (d : Data) → shape_fault d ≡ None → IsAsked d
unfolding shape_fault
asks d none = asks_at d (get (codes "op") d) refl (passed (is_some (as_object d)) _ _ none).1

same_some : {A : Type 0} (x y : A) → Some x ≡ Some y → x ≡ y
same_some x y e = cc

-- ---- requests

shaped : (d : Data) (o : Operation) → IsOrdered d → get (codes "op") d ≡ Some (string (name_of o))
    → line_names_fault o d ≡ None → content_fault o d ≡ None → (r : Request) × (d ≡ value_of r)
shaped d operation.register h word names content =
    let two = two_members (codes "op") queries d refl h names in
    let op = same_some two.first _ (ap (get (codes "op")) (sym two.is) ∙ word) in
    let list = list_shaped queries query_fault listing_value query_shaped two.second two.ordered.1
    (subst (λ v. list_in queries query_fault v ≡ None) two.is content) in
    (register list.0, two.is ∙ ap₂ (λ a b. object (member (codes "op") a (member queries b no_members))) op list.1)
shaped d operation.delete h word names content =
    let two = two_members ids (codes "op") d refl h names in
    let op = same_some two.second _ (ap (get (codes "op")) (sym two.is) ∙ word) in
    let list = list_shaped ids text_fault string (λ e ordered. text_shaped e) two.first two.ordered.0
    (subst (λ v. list_in ids text_fault v ≡ None) two.is content) in
    (delete list.0, two.is ∙ ap₂ (λ a b. object (member ids a (member (codes "op") b no_members))) list.1 op)
shaped d operation.clear h word names content =
    let one = one_member (codes "op") d h names in (
      clear,
      one.is ∙ ap (λ a. object (member (codes "op") a no_members))
          (same_some one.first _ (ap (get (codes "op")) (sym one.is) ∙ word)),
    )
shaped d operation.purge h word names content =
    let one = one_member (codes "op") d h names in (
      purge,
      one.is ∙ ap (λ a. object (member (codes "op") a no_members))
          (same_some one.first _ (ap (get (codes "op")) (sym one.is) ∙ word)),
    )
shaped d operation.count h word names content =
    let one = one_member (codes "op") d h names in (
      count,
      one.is ∙ ap (λ a. object (member (codes "op") a no_members))
          (same_some one.first _ (ap (get (codes "op")) (sym one.is) ∙ word)),
    )
shaped d operation.show h word names content =
    let two = two_members (codes "id") (codes "op") d refl h names in
    let op = same_some two.second _ (ap (get (codes "op")) (sym two.is) ∙ word) in
    let p = passed (is_some (as_str two.first)) _ _
    (subst (λ v. texts_fault (codes "id" ∷ []) v ≡ None) two.is content) in
    let id = text_held two.first p.0 in
    (show id.0, two.is ∙ ap₂ (λ a b. object (member (codes "id") a (member (codes "op") b no_members))) id.1 op)
shaped d operation.match h word names content =
    let two = two_members articles (codes "op") d refl h names in
    let op = same_some two.second _ (ap (get (codes "op")) (sym two.is) ∙ word) in
    let list = list_shaped articles article_fault draft_value article_shaped two.first two.ordered.0
    (subst (λ v. list_in articles article_fault v ≡ None) two.is content) in
    (match list.0, two.is ∙ ap₂ (λ a b. object (member articles a (member (codes "op") b no_members))) list.1 op)

-- a value with no fault is that of a request
pub request_from_shape : (d : Data) → IsOrdered d → shape_fault d ≡ None → (r : Request) × (d ≡ value_of r)
request_from_shape d h e = let a = asks d e in shaped d a.asked h a.word a.names a.content

-- and is read as one
pub read_from_shape : (d : Data) → IsOrdered d → shape_fault d ≡ None → (r : Request) × (request_of d ≡ Some r)
read_from_shape d h e = let w = request_from_shape d h e in (w.0, ap request_of w.1 ∙ request_of-value_of w.0)
