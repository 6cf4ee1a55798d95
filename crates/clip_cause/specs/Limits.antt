-- The first fault of a request that is beyond its limits: the length of its list, then each item in order, of an
-- article
-- its id, then how many fields it has, then their names.
use Rattle.std.specs.Prelude.{ℕ, suc, List, [], ◌∷◌, ◌==◌, length, nat_lt, if◌then◌else◌, Option, Some, None}
use Rattle.std.specs.Prelude.{option_map, codes}
use Rattle.clip_words.specs.Ids.{is_id}
use Rattle.clip_meaning.specs.Article.{begins_with_digit, is_field_name}
use Rattle.clip_meaning.specs.declared.fault.TheConstants.{MOST_FIELDS, MOST_NAME_BYTES}
use Rattle.clip_model.specs.declared.limits.TheConstants.{MOST_ARTICLES, MOST_LISTED}
use Rattle.clip_protocol.specs.Request.{Draft, Request, register, delete, clear, purge, count, show, match}
use Rattle.clip_cause.specs.Faults.{Fault, beneath, here, in_item, named, or_else}
use Rattle.clip_cause.specs.Names.{articles, fields, ids, queries}
use Rattle.clip_cause.specs.declared.wrong.Wrong.{Wrong}
use Rattle.clip_cause.specs.declared.wrong.Wrong.TheVariants.{TooManyQueries, TooManyIds, TooManyArticles}
use Rattle.clip_cause.specs.declared.wrong.Wrong.TheVariants.{TooManyFields, EmptyId, LongId, EmptyName, LongName}
use Rattle.clip_cause.specs.declared.wrong.Wrong.TheVariants.{ByteOfName, DigitFirst}

-- ---- ids and names

abbrev pub wrong_of_id : List ℕ → Wrong
wrong_of_id id = if length id == 0 then EmptyId else LongId

abbrev pub id_wrong : List ℕ → Option Wrong
id_wrong id = if is_id id then None else Some (wrong_of_id id)

abbrev pub wrong_of_name : List ℕ → Wrong
wrong_of_name name =
    if length name == 0 then EmptyName
    else (if nat_lt MOST_NAME_BYTES (length name) then LongName
    else (if begins_with_digit name then DigitFirst else ByteOfName))

-- the wrong, at the value itself
abbrev pub at_itself : Option Wrong → Option Fault
at_itself o = option_map (λ w. ([], w)) o

abbrev pub id_fault : List ℕ → Option Fault
id_fault id = at_itself (id_wrong id)

-- of the value of the member `id`, as one of the object
abbrev pub id_in : List ℕ → Option Fault
id_in id = beneath (codes "id") (id_fault id)

-- ---- articles

-- the first field whose name may be none, as one of the fields
abbrev pub field_names_fault : List (List ℕ × List ℕ) → Option Fault
field_names_fault [] = None
field_names_fault (f ∷ fs) = if is_field_name f.0 then field_names_fault fs else Some (named (wrong_of_name f.0) f.0)

-- of the fields themselves
abbrev pub fields_fault : Draft → Option Fault
fields_fault d =
    if nat_lt MOST_FIELDS (length d.fields) then here TooManyFields
    else field_names_fault d.fields

abbrev pub draft_fault : Draft → Option Fault
draft_fault d = or_else (id_in d.id) (beneath fields (fields_fault d))

-- ---- lists

-- the first fault of an item, from this place on
abbrev pub each_fault : {A : Type 0} → List ℕ → (A → Option Fault) → ℕ → List A → Option Fault
each_fault list fault place [] = None
each_fault list fault place (x ∷ xs) =
    or_else (in_item list place (fault x)) (each_fault list fault (suc place) xs)

-- the list has more items than so many, or an item has a fault
abbrev pub listed_fault : {A : Type 0} → List ℕ → ℕ → Wrong → (A → Option Fault) → List A → Option Fault
listed_fault list most w fault xs =
    if nat_lt most (length xs) then Some (named w list) else each_fault list fault 0 xs

-- the first place at which the request is beyond its limits
abbrev pub limit_fault : Request → Option Fault
limit_fault (register listings) = listed_fault queries MOST_LISTED TooManyQueries (λ l. id_in l.id) listings
limit_fault (delete listed) = listed_fault ids MOST_LISTED TooManyIds id_fault listed
limit_fault clear = None
limit_fault purge = None
limit_fault count = None
limit_fault (show id) = id_in id
limit_fault (match drafts) = listed_fault articles MOST_ARTICLES TooManyArticles draft_fault drafts
