-- What a line may ask for, and the members that its objects have then.
use Rattle.std.specs.Prelude.{◌≡◌, ℕ, List, [], ◌∷◌, if◌then◌else◌, Option, Some, None, codes, bytes_eq}
use Rattle.serde_json.specs.Data.{Data, string}
use Rattle.serde_json.specs.Find.{get}
use Rattle.clip_cause.specs.Path.{Path, to_member, to_item}

-- ---- operations

pub data Operation : Type 0 where
  register : Operation
  delete : Operation
  clear : Operation
  purge : Operation
  count : Operation
  show : Operation
  match : Operation

abbrev pub name_of : Operation → List ℕ
name_of register = codes "register"
name_of delete = codes "delete"
name_of clear = codes "clear"
name_of purge = codes "purge"
name_of count = codes "count"
name_of show = codes "show"
name_of match = codes "match"

-- the operation of this name
abbrev pub operation_of : List ℕ → Option Operation
operation_of word =
    if bytes_eq word (codes "register") then Some register
    else (if bytes_eq word (codes "delete") then Some delete
    else (if bytes_eq word (codes "clear") then Some clear
    else (if bytes_eq word (codes "purge") then Some purge
    else (if bytes_eq word (codes "count") then Some count
    else (if bytes_eq word (codes "show") then Some show
    else (if bytes_eq word (codes "match") then Some match else None))))))

-- the value is an object whose member `op` names the operation
abbrev pub AsksFor : Operation → Data → Type 0
AsksFor o d = get (codes "op") d ≡ Some (string (name_of o))

-- ---- names of members

abbrev pub ids : List ℕ
ids = codes "ids"

abbrev pub queries : List ℕ
queries = codes "queries"

abbrev pub articles : List ℕ
articles = codes "articles"

abbrev pub fields : List ℕ
fields = codes "fields"

abbrev pub op_alone : List (List ℕ)
op_alone = codes "op" ∷ []

-- of the line's object
abbrev pub line_names : Operation → List (List ℕ)
line_names register = codes "op" ∷ queries ∷ []
line_names delete = ids ∷ codes "op" ∷ []
line_names clear = op_alone
line_names purge = op_alone
line_names count = op_alone
line_names show = codes "id" ∷ codes "op" ∷ []
line_names match = articles ∷ codes "op" ∷ []

-- of a listed query, which may lack a listener
abbrev pub query_names : List (List ℕ)
query_names = codes "id" ∷ codes "listener" ∷ codes "query" ∷ []

abbrev pub query_needs : List (List ℕ)
query_needs = codes "id" ∷ codes "query" ∷ []

-- of a listed article
abbrev pub article_names : List (List ℕ)
article_names = fields ∷ codes "id" ∷ []

-- of an item of a list
abbrev pub item_names : Operation → List (List ℕ)
item_names register = query_names
item_names match = article_names
item_names _ = []

abbrev pub item_needs : Operation → List (List ℕ)
item_needs register = query_needs
item_needs match = article_names
item_needs _ = []

-- the names that the object at this path may have
abbrev pub names_at : Operation → Path → List (List ℕ)
names_at o [] = line_names o
names_at o (to_member list ∷ to_item place ∷ []) = item_names o
names_at o _ = []

-- and those that it is to have
abbrev pub needs_at : Operation → Path → List (List ℕ)
needs_at o [] = line_names o
needs_at o (to_member list ∷ to_item place ∷ []) = item_needs o
needs_at o _ = []
