-- What a line says, found step by step: the stepping stone from the reader of lines to what a line says.
use Rattle.std.specs.Prelude.{◌≡◌, ℕ, ◌==◌, ◌&&◌, nat_le, List, [], ◌∷◌, length, map, Bool, true, false, if◌then◌else◌}
use Rattle.std.specs.Prelude.{Option, Some, None, option_map, option_and_then, codes, bytes_eq, Result, Ok, Err, ⊤}
use Rattle.serde_json.specs.Data.{Data, Items, no_items, item, Members, no_members, member}
use Rattle.serde_json.specs.Events.{members_len}
use Rattle.serde_json.specs.Find.{get, as_str, as_array, as_object}
use Rattle.std.specs.List.{list_all}
use Rattle.clip_meaning.specs.Article.{ArticleValue}
use Rattle.clip_words.specs.Ids.{is_id}
use Rattle.clip_model.specs.History.{History}
use Rattle.clip_model.specs.declared.limits.TheConstants.{MOST_LISTED}
use Rattle.clip_protocol.specs.declared.refusal.Refusal.{Refusal}
use Rattle.clip_protocol.specs.declared.refusal.Refusal.TheVariants as refusal
use Rattle.clip_protocol.specs.declared.refusal.Unread.{Unread}
use Rattle.clip_protocol.specs.declared.refusal.Unread.TheVariants as unread
use Rattle.clip_protocol.specs.declared.request.Operation.{Operation}
use Rattle.clip_protocol.specs.declared.request.Operation.TheVariants as operation
use Rattle.clip_protocol.specs.Request as request
use Rattle.clip_protocol.specs.Request.{Listing, Draft, Request, within}
use Rattle.clip_protocol.specs.LineMeaning.{Meaning, is_long, is_blank, json_of, article_of, MeansRequest}
use Rattle.clip_protocol.specs.LineMeaning as line

-- ---- members of objects, in order

-- the value of the first member, where it has this name, and the other members
abbrev pub take_member : List ℕ → Members → Option (Data × Members)
take_member name no_members = None
take_member name (member k d ms) = if bytes_eq k name then Some (d, ms) else None

abbrev pub when_none_left : {A : Type 0} → A → Members → Option A
when_none_left x no_members = Some x
when_none_left x (member k d ms) = None

abbrev pub then_take : List ℕ → Data × Members → Option (Data × Data)
then_take second p = option_and_then (λ q. when_none_left (p.0, q.0) q.1) (take_member second p.1)

-- the values of just these two members
abbrev pub two_of : List ℕ → List ℕ → Members → Option (Data × Data)
two_of first second ms = option_and_then (then_take second) (take_member first ms)

-- the values of an object of just these two members
abbrev pub two_members : List ℕ → List ℕ → Data → Option (Data × Data)
two_members first second d = option_and_then (two_of first second) (as_object d)

abbrev pub then_two : List ℕ → List ℕ → Data × Members → Option (Data × (Data × Data))
then_two second third p = option_map (λ q. (p.0, q)) (two_of second third p.1)

abbrev pub three_of : List ℕ → List ℕ → List ℕ → Members → Option (Data × (Data × Data))
three_of first second third ms = option_and_then (then_two second third) (take_member first ms)

-- the values of an object of just these three members
abbrev pub three_members : List ℕ → List ℕ → List ℕ → Data → Option (Data × (Data × Data))
three_members first second third d = option_and_then (three_of first second third) (as_object d)

abbrev pub counts_members : ℕ → Option Members → Bool
counts_members n None = false
counts_members n (Some ms) = members_len ms == n

-- an object of so many members
unfoldable pub has_members : ℕ → Data → Bool
has_members n d = counts_members n (as_object d)

-- the first of these that has this name
abbrev pub named_in : {O : Type 0} → List (List ℕ × O) → List ℕ → Option O
named_in [] word = None
named_in (p ∷ ps) word = if bytes_eq word p.0 then Some p.1 else named_in ps word

-- the operation, of these under their names, that an object asks for
abbrev pub asked_in : {O : Type 0} → List (List ℕ × O) → Data → Option O
asked_in these d = option_and_then (named_in these) (option_and_then as_str (get (codes "op") d))

-- ---- requests

-- what each item is, where each is one
abbrev pub all_of : {A : Type 0} → (Data → Option A) → Items → Option (List A)
all_of f no_items = Some []
all_of f (item d ds) = option_and_then (λ x. option_map (λ xs. x ∷ xs) (all_of f ds)) (f d)

abbrev pub fields_of : Members → Option (List (List ℕ × List ℕ))
fields_of no_members = Some []
fields_of (member k d ms) = option_and_then (λ text. option_map (λ fs. (k, text) ∷ fs) (fields_of ms)) (as_str d)

abbrev pub plain_by : Data × Data → Option Listing
plain_by p = option_and_then (λ id. option_map (λ text. record { id = id; query = text; listener = None }) (as_str p.1))
    (as_str p.0)

-- a query without a listener
unfoldable pub plain_listing_of : Data → Option Listing
plain_listing_of d = option_and_then plain_by (two_members (codes "id") (codes "query") d)

abbrev pub heard_by : Data × (Data × Data) → Option Listing
heard_by p =
    option_and_then (λ id. option_and_then
    (λ name. option_map (λ text. record { id = id; query = text; listener = Some name }) (as_str p.1.1))
    (as_str p.1.0)) (as_str p.0)

-- a query with a listener
unfoldable pub heard_listing_of : Data → Option Listing
heard_listing_of d = option_and_then heard_by (three_members (codes "id") (codes "listener") (codes "query") d)

unfoldable pub listing_of : Data → Option Listing
listing_of d = if has_members 3 d then heard_listing_of d else plain_listing_of d

abbrev pub draft_by : Data × Data → Option Draft
draft_by p = option_and_then (λ id. option_map (λ fields. record { id = id; fields = fields })
    (option_and_then fields_of (as_object p.0))) (as_str p.1)

unfoldable pub draft_of : Data → Option Draft
draft_of d = option_and_then draft_by (two_members (codes "fields") (codes "id") d)

abbrev pub operations : List (List ℕ × Operation)
operations = (codes "register", operation.Register) ∷ (codes "delete", operation.Delete)
    ∷ (codes "clear", operation.Clear) ∷ (codes "purge", operation.Purge) ∷ (codes "count", operation.Count)
    ∷ (codes "show", operation.Show) ∷ (codes "match", operation.Match) ∷ []

-- the operation of a run that an object asks for
unfoldable pub operation_in : Data → Option Operation
operation_in d = asked_in operations d

abbrev pub alone : Request → Data → Option Request
alone r d = if has_members 1 d then Some r else None

unfoldable pub register_of : Data → Option Request
register_of d = option_map request.register
    (option_and_then (λ p. option_and_then (all_of listing_of) (as_array p.1))
    (two_members (codes "op") (codes "queries") d))

unfoldable pub delete_of : Data → Option Request
delete_of d = option_map request.delete
    (option_and_then (λ p. option_and_then (all_of as_str) (as_array p.0)) (two_members (codes "ids") (codes "op") d))

unfoldable pub show_of : Data → Option Request
show_of d = option_map request.show (option_and_then (λ p. as_str p.0) (two_members (codes "id") (codes "op") d))

unfoldable pub match_of : Data → Option Request
match_of d = option_map request.match
    (option_and_then (λ p. option_and_then (all_of draft_of) (as_array p.0))
    (two_members (codes "articles") (codes "op") d))

abbrev pub request_by : Data → Operation → Option Request
request_by d operation.Register = register_of d
request_by d operation.Delete = delete_of d
request_by d operation.Clear = alone request.clear d
request_by d operation.Purge = alone request.purge d
request_by d operation.Count = alone request.count d
request_by d operation.Show = show_of d
request_by d operation.Match = match_of d

-- the request that has this value, if one has
unfoldable pub request_of : Data → Option Request
request_of d = option_and_then (request_by d) (operation_in d)

-- ---- lines

-- what is to be done: nothing, a refusal, or a request within the limits, whose articles are read
pub data Outline : Type 0 where
  blank : Outline
  refused : Refusal → Outline
  registers : List Listing → Outline
  deletes : List (List ℕ) → Outline
  clears : Outline
  purges : Outline
  counts : Outline
  shows : List ℕ → Outline
  matches : List ArticleValue → Outline

abbrev pub requests : Request → Outline
requests (request.register listings) = registers listings
requests (request.delete ids) = deletes ids
requests request.clear = clears
requests request.purge = purges
requests request.count = counts
requests (request.show id) = shows id
requests (request.match drafts) = matches (map article_of drafts)

-- the outline of what a line says
abbrev pub outline_said : line.Line Request → Outline
outline_said line.blank = blank
outline_said (line.refused r) = refused r
outline_said (line.asks r) = requests r

abbrev pub outline_of_request : Request → Outline
outline_of_request r = if within r then requests r else refused refusal.Limit

abbrev pub outline_of_asked : Option Request → Outline
outline_of_asked None = refused refusal.Shape
outline_of_asked (Some r) = outline_of_request r

abbrev pub outline_of_value : Option Data → Outline
outline_of_value None = refused refusal.Json
outline_of_value (Some d) = outline_of_asked (request_of d)

-- the outline of a line with this value
abbrev pub outline_of_line : line.Line Data → Outline
outline_of_line line.blank = blank
outline_of_line (line.refused r) = refused r
outline_of_line (line.asks d) = outline_of_asked (request_of d)

unfoldable pub outline : List ℕ → Outline
outline bytes = if is_long bytes then refused refusal.Long
    else (if is_blank bytes then blank else outline_of_value (json_of bytes))

-- what is listed is not too much, and ids may be ones
abbrev pub is_within : Outline → Bool
is_within (registers listings) = nat_le (length listings) MOST_LISTED && list_all (λ l. is_id l.id) listings
is_within (deletes ids) = nat_le (length ids) MOST_LISTED && list_all is_id ids
is_within _ = true

abbrev pub MeansOutline : List (List ℕ) → History → Outline → Meaning → Type 0
MeansOutline names h blank m = m ≡ line.nothing
MeansOutline names h (refused r) m = m ≡ line.refusal r
MeansOutline names h (registers listings) m = MeansRequest names h (request.register listings) m
MeansOutline names h (deletes ids) m = MeansRequest names h (request.delete ids) m
MeansOutline names h clears m = MeansRequest names h request.clear m
MeansOutline names h purges m = MeansRequest names h request.purge m
MeansOutline names h counts m = MeansRequest names h request.count m
MeansOutline names h (shows id) m = MeansRequest names h (request.show id) m
MeansOutline names h (matches articles) m = m ≡ line.matching articles

-- ---- what was read

-- What was read is this, or there is none, for which this is the refusal.
abbrev pub ReadsAs : {A B : Type 0} → Refusal → (A → B) → Option B → Result A Unread → Type 0
ReadsAs reason value found (Ok a) = found ≡ Some (value a)
ReadsAs reason value found (Err (unread.Refused r)) = (r ≡ reason) × (found ≡ None)
ReadsAs reason value found (Err unread.NoMemory) = ⊤

-- The outline is that of what was read, or the refusal.
abbrev pub Outlines : {A : Type 0} → (A → Outline) → Outline → Result A Unread → Type 0
Outlines value o (Ok a) = o ≡ value a
Outlines value o (Err (unread.Refused r)) = o ≡ refused r
Outlines value o (Err unread.NoMemory) = ⊤

-- the articles, where a line may list so many and each may be one
abbrev pub articles_in : List Draft → Option (List ArticleValue)
articles_in drafts = if within (request.match drafts) then Some (map article_of drafts) else None
