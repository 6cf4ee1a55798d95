-- Why a line is refused, and where.
use Rattle.std.specs.Prelude.{◌≡◌, ◌⊎◌, ℕ, ◌<◌, ◌≤◌, List, [], ◌∷◌, ◌++◌, length, true, false, Option, Some, None}
use Rattle.std.specs.Prelude.{is_some, codes, bytes_eq, string_bytes}
use Rattle.std.specs.List.{list_all, list_any}
use Rattle.serde_json.specs.Data.{Data, string, array, object, Items, Members}
use Rattle.serde_json.specs.Events.{items_len, members_len}
use Rattle.serde_json.specs.Find.{get_member, as_str, as_array, as_object}
use Rattle.clip_words.specs.declared.TheConstants.{MOST_ID_BYTES}
use Rattle.clip_meaning.specs.Article.{begins_with_digit, is_name_byte}
use Rattle.clip_meaning.specs.declared.fault.TheConstants.{MOST_FIELDS, MOST_NAME_BYTES}
use Rattle.clip_model.specs.declared.limits.TheConstants.{MOST_ARTICLES, MOST_LISTED}
use Rattle.clip_protocol.specs.LineMeaning as line
use Rattle.clip_protocol.specs.LineMeaning.{Meaning, json_of}
use Rattle.clip_protocol.specs.Steps.Outline.{Outline, refused}
use Rattle.clip_protocol.specs.declared.refusal.Refusal.{Refusal}
use Rattle.clip_protocol.specs.declared.refusal.Refusal.TheVariants.{Long, Json, Shape, Limit, Query, Listener, Full}
use Rattle.clip_cause.specs.Names.{Operation, AsksFor, operation_of, ids, queries, articles, fields, names_at, needs_at}
use Rattle.clip_cause.specs.Path.{Path, to_member, to_item, value_at, path_text}
use Rattle.clip_cause.specs.Wrong.{refusal_of}
use Rattle.clip_cause.specs.declared.cause.LineCause.{LineCause}
use Rattle.clip_cause.specs.declared.cause.Place.{Place}
use Rattle.clip_cause.specs.declared.cause.Place.TheVariants.{Byte, Member}
use Rattle.clip_cause.specs.declared.wrong.Wrong.{Wrong}
use Rattle.clip_cause.specs.declared.wrong.Wrong.TheVariants as wrong

-- ---- the refusal

abbrev pub told_refusal : Refusal → Option Refusal
told_refusal Long = None
told_refusal Json = Some Json
told_refusal Shape = Some Shape
told_refusal Limit = Some Limit
told_refusal Query = None
told_refusal Listener = None
told_refusal Full = None

-- the refusal that a line says by itself, where it is one whose cause is told
abbrev pub told_of : Outline → Option Refusal
told_of (refused r) = told_refusal r
told_of _ = None

-- the refusal that a line means, where it is one whose cause is told
abbrev pub told_by : Meaning → Option Refusal
told_by (line.refusal r) = told_refusal r
told_by _ = None

-- ---- what is wrong at a path of the value of a line

-- the value there has this
abbrev pub HasThere : Path → Data → (Data → Type 0) → Type 0
HasThere path d P = (e : Data) × (value_at path d ≡ Some e) × P e

abbrev pub IsLongList : ℕ → Data → Type 0
IsLongList most e = (ds : Items) × (e ≡ array ds) × (most < items_len ds)

abbrev pub IsWideObject : ℕ → Data → Type 0
IsWideObject most e = (ms : Members) × (e ≡ object ms) × (most < members_len ms)

abbrev pub IsLongText : ℕ → Data → Type 0
IsLongText most e = (text : List ℕ) × (e ≡ string text) × (most < length text)

-- the line's operation is to have this name among those of its object at this path; `op` comes before any operation
abbrev pub IsNeeded : Data → Path → List ℕ → Type 0
IsNeeded d path name = ((path ≡ []) × (name ≡ codes "op"))
    ⊎ ((o : Operation) × AsksFor o d × (list_any (bytes_eq name) (needs_at o path) ≡ true))

-- and it has no such name there
abbrev pub IsForeign : Data → Path → List ℕ → Type 0
IsForeign d path name =
    (o : Operation) × AsksFor o d × (list_any (bytes_eq name) (names_at o path) ≡ false)

-- the path leads to a member of this name, which is needed, and the object that is to have it does not
pub record LacksMember (path : Path) (d : Data) : Type 0 where
  pub owner : Path
  pub name : List ℕ
  pub parts : path ≡ owner ++ to_member name ∷ []
  pub lacks : HasThere owner d (λ e. (ms : Members) × (e ≡ object ms) × (get_member name ms ≡ None))
  pub needed : IsNeeded d owner name

-- the path leads to a member whose name its object may not have
pub record HasForeign (path : Path) (d : Data) : Type 0 where
  pub owner : Path
  pub name : List ℕ
  pub parts : path ≡ owner ++ to_member name ∷ []
  pub there : is_some (value_at path d) ≡ true
  pub foreign : IsForeign d owner name

-- the path leads to a member of the fields of a listed article, of whose name this is true
pub record HasFieldNamed (path : Path) (d : Data) (P : List ℕ → Type 0) : Type 0 where
  pub place : ℕ
  pub name : List ℕ
  pub parts : path ≡ to_member articles ∷ to_item place ∷ to_member fields ∷ to_member name ∷ []
  pub there : is_some (value_at path d) ≡ true
  pub has : P name

abbrev pub IsWrongAt : Path → Wrong → Data → Type 0
IsWrongAt path wrong.NotUtf8 d = ⊥
IsWrongAt path wrong.NotJson d = ⊥
IsWrongAt path wrong.NotAnObject d = HasThere path d (λ e. as_object e ≡ None)
IsWrongAt path wrong.NotAList d = HasThere path d (λ e. as_array e ≡ None)
IsWrongAt path wrong.NotAString d = HasThere path d (λ e. as_str e ≡ None)
IsWrongAt path wrong.Missing d = LacksMember path d
IsWrongAt path wrong.Unknown d = HasForeign path d
IsWrongAt path wrong.NoOperation d =
    (path ≡ to_member (codes "op") ∷ [])
    × HasThere path d (λ e. (word : List ℕ) × (e ≡ string word) × (operation_of word ≡ None))
IsWrongAt path wrong.TooManyQueries d = (path ≡ to_member queries ∷ []) × HasThere path d (IsLongList MOST_LISTED)
IsWrongAt path wrong.TooManyIds d = (path ≡ to_member ids ∷ []) × HasThere path d (IsLongList MOST_LISTED)
IsWrongAt path wrong.TooManyArticles d = (path ≡ to_member articles ∷ []) × HasThere path d (IsLongList MOST_ARTICLES)
IsWrongAt path wrong.TooManyFields d = HasThere path d (IsWideObject MOST_FIELDS)
IsWrongAt path wrong.EmptyId d = HasThere path d (λ e. e ≡ string [])
IsWrongAt path wrong.LongId d = HasThere path d (IsLongText MOST_ID_BYTES)
IsWrongAt path wrong.EmptyName d = HasFieldNamed path d (λ name. name ≡ [])
IsWrongAt path wrong.LongName d = HasFieldNamed path d (λ name. MOST_NAME_BYTES < length name)
IsWrongAt path wrong.ByteOfName d = HasFieldNamed path d (λ name. list_all is_name_byte name ≡ false)
IsWrongAt path wrong.DigitFirst d = HasFieldNamed path d (λ name. begins_with_digit name ≡ true)

-- ---- the cause of a line

abbrev pub IsPlaceOf : List ℕ → Place → Wrong → Type 0
IsPlaceOf line (Byte at) w = (at ≤ length line) × (json_of line ≡ None)
IsPlaceOf line (Member text) w =
    (d : Data) × (json_of line ≡ Some d) × (path : Path) × (string_bytes text ≡ path_text path) × IsWrongAt path w d

-- the line is wrong in this way at this place, and refused for it
pub record IsCauseOf (line : List ℕ) (c : LineCause) : Type 0 where
  pub place : IsPlaceOf line c.place c.wrong
  pub refusal : c.refusal ≡ refusal_of c.wrong
