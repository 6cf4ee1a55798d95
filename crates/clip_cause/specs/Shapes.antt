-- The first fault in the shape of a line's value. The operation is judged first; then of each object which members are
-- missing, which are unknown, and what each holds.
use Rattle.std.specs.Prelude.{ℕ, suc, List, [], ◌∷◌, Bool, true, if◌then◌else◌, Option, Some, None, option_map}
use Rattle.std.specs.Prelude.{option_and_then, is_some, codes, bytes_eq}
use Rattle.std.specs.List.{list_any}
use Rattle.serde_json.specs.Data.{Data, Items, no_items, item, Members, no_members, member}
use Rattle.serde_json.specs.Find.{get, as_str, as_array, as_object}
use Rattle.clip_cause.specs.Faults.{Fault, beneath, here, in_item, named, or_else}
use Rattle.clip_cause.specs.Names as operation
use Rattle.clip_cause.specs.Names.{Operation, operation_of, ids, queries, articles, fields, query_names, query_needs}
use Rattle.clip_cause.specs.Names.{article_names, line_names}
use Rattle.clip_cause.specs.declared.wrong.Wrong.TheVariants.{NotAnObject, NotAList, NotAString, Missing, Unknown}
use Rattle.clip_cause.specs.declared.wrong.Wrong.TheVariants.{NoOperation}

-- ---- the names of members

-- the first of the names that no member has
abbrev pub missing : List (List ℕ) → Data → Option (List ℕ)
missing [] d = None
missing (name ∷ names) d = if is_some (get name d) then missing names d else Some name

-- the first name of a member that is none of these
abbrev pub unknown : List (List ℕ) → Members → Option (List ℕ)
unknown names no_members = None
unknown names (member k d ms) = if list_any (bytes_eq k) names then unknown names ms else Some k

abbrev pub names_by : List (List ℕ) → List (List ℕ) → Data → Option Members → Option Fault
names_by needed known d None = here NotAnObject
names_by needed known d (Some ms) =
    or_else (option_map (named Missing) (missing needed d)) (option_map (named Unknown) (unknown known ms))

-- the value is no object, lacks a member that is needed, or has one that is not known
abbrev pub names_fault : List (List ℕ) → List (List ℕ) → Data → Option Fault
names_fault needed known d = names_by needed known d (as_object d)

-- ---- texts

abbrev pub no_text : Option (List ℕ) → Option Fault
no_text None = here NotAString
no_text (Some text) = None

-- the value is no string
abbrev pub text_fault : Data → Option Fault
text_fault d = no_text (as_str d)

abbrev pub is_text_if_there : Option Data → Bool
is_text_if_there None = true
is_text_if_there (Some d) = is_some (as_str d)

abbrev pub is_text_or_absent : List ℕ → Data → Bool
is_text_or_absent name d = is_text_if_there (get name d)

-- a member of one of these names is no string
abbrev pub texts_fault : List (List ℕ) → Data → Option Fault
texts_fault [] d = None
texts_fault (name ∷ names) d = if is_text_or_absent name d then texts_fault names d else Some (named NotAString name)

-- ---- what is listed

abbrev pub query_fault : Data → Option Fault
query_fault d = or_else (names_fault query_needs query_names d) (texts_fault query_names d)

-- the first field that is no string
abbrev pub field_texts : Members → Option Fault
field_texts no_members = None
field_texts (member k d ms) = if is_some (as_str d) then field_texts ms else Some (named NotAString k)

abbrev pub fields_by : Option Members → Option Fault
fields_by None = here NotAnObject
fields_by (Some ms) = field_texts ms

-- of the value of `fields`, as one of the article
abbrev pub fields_fault : Data → Option Fault
fields_fault d = beneath fields (fields_by (as_object d))

abbrev pub fields_in : Data → Option Fault
fields_in d = option_and_then fields_fault (get fields d)

abbrev pub article_fault : Data → Option Fault
article_fault d = or_else (names_fault article_names article_names d)
    (or_else (fields_in d) (texts_fault (codes "id" ∷ []) d))

-- the first fault of an item, from this place on
abbrev pub items_fault : List ℕ → (Data → Option Fault) → ℕ → Items → Option Fault
items_fault list fault place no_items = None
items_fault list fault place (item d ds) =
    or_else (in_item list place (fault d)) (items_fault list fault (suc place) ds)

abbrev pub list_by : List ℕ → (Data → Option Fault) → Option Items → Option Fault
list_by list fault None = Some (named NotAList list)
list_by list fault (Some ds) = items_fault list fault 0 ds

-- of the value of the member of this name, as one of the line's object
abbrev pub list_fault : List ℕ → (Data → Option Fault) → Data → Option Fault
list_fault list fault d = list_by list fault (as_array d)

abbrev pub list_in : List ℕ → (Data → Option Fault) → Data → Option Fault
list_in list fault d = option_and_then (list_fault list fault) (get list d)

-- ---- operations

abbrev pub line_names_fault : Operation → Data → Option Fault
line_names_fault o d = names_fault (line_names o) (line_names o) d

-- what the members other than `op` hold
abbrev pub content_fault : Operation → Data → Option Fault
content_fault operation.register d = list_in queries query_fault d
content_fault operation.delete d = list_in ids text_fault d
content_fault operation.clear d = None
content_fault operation.purge d = None
content_fault operation.count d = None
content_fault operation.show d = texts_fault (codes "id" ∷ []) d
content_fault operation.match d = list_in articles article_fault d

abbrev pub asked_by : Data → Option Operation → Option Fault
asked_by d None = Some (named NoOperation (codes "op"))
asked_by d (Some o) = or_else (line_names_fault o d) (content_fault o d)

abbrev pub word_by : Data → Option (List ℕ) → Option Fault
word_by d None = Some (named NotAString (codes "op"))
word_by d (Some word) = asked_by d (operation_of word)

abbrev pub op_by : Data → Option Data → Option Fault
op_by d None = Some (named Missing (codes "op"))
op_by d (Some e) = word_by d (as_str e)

-- the first fault in the shape of the value of a line
unfoldable pub shape_fault : Data → Option Fault
shape_fault d = if is_some (as_object d) then op_by d (get (codes "op") d) else here NotAnObject
