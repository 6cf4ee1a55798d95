-- What a line means after a history.
use Rattle.std.specs.Prelude.{◌≡◌, ◌⊎◌, ℕ, zero, suc, List, [], ◌∷◌, map, length, Bool, true, false, nat_lt}
use Rattle.std.specs.Prelude.{if◌then◌else◌, ◌==◌, ⊤, Option, Some, None, bytes_eq}
use Rattle.std.specs.List.{list_all, list_any}
use Rattle.std.specs.Str.{is_utf8}
use Rattle.serde_json.specs.Data.{Data}
use Rattle.serde_json.specs.Read.{read}
use Rattle.clip_grammar.specs.Tree.{Tree}
use Rattle.clip_grammar.specs.Reading.{Reads, HasNoFault}
use Rattle.clip_meaning.specs.Article.{ArticleValue, article_value}
use Rattle.clip_model.specs.Standing.{Standing}
use Rattle.clip_model.specs.History.{History, Command, Register, Delete, Clear, has_room, with_command}
use Rattle.clip_stream.specs.declared.limits.TheConstants.{MOST_LINE_BYTES}
use Rattle.clip_protocol.specs.declared.refusal.Refusal.{Refusal}
use Rattle.clip_protocol.specs.declared.refusal.Refusal.TheVariants as reason
use Rattle.clip_protocol.specs.Request as request
use Rattle.clip_protocol.specs.Request.{Request, Listing, Draft, value_of, within}

-- ---- what a line says by itself

abbrev pub is_long : List ℕ → Bool
is_long line = nat_lt MOST_LINE_BYTES (length line)

abbrev pub is_blank_byte : ℕ → Bool
is_blank_byte b = if b == 32 then true else (if b == 9 then true else b == 13)

-- only spaces, tabs and carriage returns
abbrev pub is_blank : List ℕ → Bool
is_blank line = list_all is_blank_byte line

-- the value that the bytes are, as `serde_json` reads them
unfoldable pub json_of : List ℕ → Option Data
json_of line = if is_utf8 line then read line else None

-- it is blank, refused, or asks for something, by requests of this type
pub data Line (R : Type 0) : Type 0 where
  blank : Line R
  refused : Refusal → Line R
  asks : R → Line R

-- not too long, and not blank
pub record IsFilled (line : List ℕ) : Type 0 where
  pub short : is_long line ≡ false
  pub some : is_blank line ≡ false

-- The line says this, by requests with these values and within these limits: the first that holds of too long, blank,
-- no JSON value, no request's value, beyond the limits, and a request.
abbrev pub SaysBy : {R : Type 0} → (R → Data) → (R → Bool) → List ℕ → Line R → Type 0
SaysBy value within line (refused reason.Long) = is_long line ≡ true
SaysBy value within line blank = (is_long line ≡ false) × (is_blank line ≡ true)
SaysBy value within line (refused reason.Json) = IsFilled line × (json_of line ≡ None)
SaysBy value within line (refused reason.Shape) =
    IsFilled line × (d : Data) × (json_of line ≡ Some d) × ((r : _) → ¬ (d ≡ value r))
SaysBy value within line (refused reason.Limit) =
    IsFilled line × (r : _) × (json_of line ≡ Some (value r)) × (within r ≡ false)
SaysBy value within line (refused reason.Query) = ⊥
SaysBy value within line (refused reason.Listener) = ⊥
SaysBy value within line (refused reason.Full) = ⊥
SaysBy value within line (asks r) = IsFilled line × (json_of line ≡ Some (value r)) × (within r ≡ true)

abbrev pub Says : List ℕ → Line Request → Type 0
Says line said = SaysBy value_of within line said

-- ---- what it means after a history

pub data Meaning : Type 0 where
  nothing : Meaning
  refusal : Refusal → Meaning
  refusal_at : Refusal → ℕ → Meaning
  command : Command → Meaning
  purging : Meaning
  counting : Meaning
  showing : List ℕ → Meaning
  matching : List ArticleValue → Meaning

-- The text, in UTF-8, is read as this tree, and no refusal holds of it.
pub record IsQuery (text : List ℕ) (tree : Tree) : Type 0 where
  pub utf8 : is_utf8 text ≡ true
  pub reads : Reads text tree
  pub kept : HasNoFault text

abbrev pub IsAQuery : List ℕ → Type 0
IsAQuery text = (tree : Tree) × IsQuery text tree

-- one of these names is that of the listener, or there is none to hear
abbrev pub is_here : List (List ℕ) → Option (List ℕ) → Bool
is_here names None = true
is_here names (Some name) = list_any (bytes_eq name) names

-- the listed query is this standing one
pub record IsReadAs (l : Listing) (s : Standing) : Type 0 where
  pub id : s.id ≡ l.id
  pub text : s.text ≡ l.query
  pub listener : s.listener ≡ l.listener
  pub query : IsQuery l.query s.tree

-- and its listener is here
pub record IsTakenAs (names : List (List ℕ)) (l : Listing) (s : Standing) : Type 0 where
  pub read : IsReadAs l s
  pub here : is_here names l.listener ≡ true

-- each in order
abbrev pub AreTakenAs : List (List ℕ) → List Listing → List Standing → Type 0
AreTakenAs names [] [] = ⊤
AreTakenAs names (l ∷ ls) (s ∷ ss) = IsTakenAs names l s × AreTakenAs names ls ss
AreTakenAs names [] (s ∷ ss) = ⊥
AreTakenAs names (l ∷ ls) [] = ⊥

-- why a listed query is refused: its text is no query, or it is one and its listener is not here
abbrev pub IsRefusedFor : List (List ℕ) → Listing → Refusal → Type 0
IsRefusedFor names l reason.Query = (tree : Tree) → ¬ (IsQuery l.query tree)
IsRefusedFor names l reason.Listener = IsAQuery l.query × (is_here names l.listener ≡ false)
IsRefusedFor names l reason.Long = ⊥
IsRefusedFor names l reason.Json = ⊥
IsRefusedFor names l reason.Shape = ⊥
IsRefusedFor names l reason.Limit = ⊥
IsRefusedFor names l reason.Full = ⊥

-- the query at this place is refused for this reason, and none before it is refused
abbrev pub FirstRefused : List (List ℕ) → List Listing → Refusal → ℕ → Type 0
FirstRefused names [] r k = ⊥
FirstRefused names (l ∷ ls) r zero = IsRefusedFor names l r
FirstRefused names (l ∷ ls) r (suc k) = IsAQuery l.query × (is_here names l.listener ≡ true) × FirstRefused names ls r k

-- the command, where the history has room for it
abbrev pub judged : History → Command → Meaning
judged h c = if has_room h c then command c else refusal reason.Full

abbrev pub article_of : Draft → ArticleValue
article_of d = article_value d.id d.fields

-- what a request means after a history, where the listeners of these names are here
abbrev pub MeansRequest : List (List ℕ) → History → Request → Meaning → Type 0
MeansRequest names h (request.register listings) m =
    ((r : Refusal) × (k : ℕ) × FirstRefused names listings r k × (m ≡ refusal_at r k))
    ⊎ ((ss : List Standing) × AreTakenAs names listings ss × (m ≡ judged h (Register ss)))
MeansRequest names h (request.delete ids) m = m ≡ judged h (Delete ids)
MeansRequest names h request.clear m = m ≡ judged h Clear
MeansRequest names h request.purge m = m ≡ purging
MeansRequest names h request.count m = m ≡ counting
MeansRequest names h (request.show id) m = m ≡ showing id
MeansRequest names h (request.match drafts) m = m ≡ matching (map article_of drafts)

abbrev pub MeansLine : List (List ℕ) → History → Line Request → Meaning → Type 0
MeansLine names h blank m = m ≡ nothing
MeansLine names h (refused r) m = m ≡ refusal r
MeansLine names h (asks r) m = MeansRequest names h r m

-- the line means this after the history, where the listeners of these names are here
pub record Means (names : List (List ℕ)) (h : History) (line : List ℕ) (m : Meaning) : Type 0 where
  pub says : Line Request
  pub is_said : Says line says
  pub means : MeansLine names h says m

-- the history after it, all of whose commands are caller 1's
abbrev pub after : History → Meaning → History
after h nothing = h
after h (refusal r) = h
after h (refusal_at r k) = h
after h (command c) = with_command h 1 c
after h purging = h
after h counting = h
after h (showing id) = h
after h (matching articles) = h
