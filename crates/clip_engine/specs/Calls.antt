-- What the calls of the library leave, by the number that they answer.
use Rattle.std.specs.Prelude.{◌≡◌, ◌⊎◌, ◌==◌, ℕ, List, [], ◌∷◌, length, Bool, true, false, Option, Some, None, Ok, Err}
use Rattle.std.specs.Prelude.{IsFalse}
use Rattle.std.specs.FinMap as finite
use Rattle.std.specs.List.{All}
use Rattle.std.specs.Str.{IsUtf8}
use Rattle.clip_words.specs.Ids.{is_id}
use Rattle.clip_meaning.specs.Article.{fault_of}
use Rattle.clip_model.specs.History.{Clear, Delete, Registered, applied, has_room, replay}
use Rattle.clip_protocol.specs.declared.listing.ListFault.TheVariants as fault
use Rattle.clip_protocol.specs.declared.refusal.Refusal.{Refusal}
use Rattle.clip_protocol.specs.declared.refusal.Unread.TheVariants as unread
use Rattle.clip_where.specs.Spans.{spans_of}
use Rattle.clip_explain_lines.specs.Asked as ask
use Rattle.clip_explain_lines.specs.Replied.{Answers}
use Rattle.clip_explain_lines.specs.Told.{Tells}
use Rattle.clip_engine.specs.Code.{number_of}
use Rattle.clip_engine.specs.Engine.{EngineIs, Accepts, Replies, Registers, has_feed, history_of, purged_engine}
use Rattle.clip_engine.specs.Explained.{spans_bytes}
use Rattle.clip_engine.specs.Found.{ids_bytes}
use Rattle.clip_engine.specs.Gathered.{AreGatherable, IsUngathered, gathered_bytes}
use Rattle.clip_engine.specs.Many.{RegistersMany}
use Rattle.clip_engine.specs.Texts.{AreTexts, IsField, IsFoundAt, IsNoText, IsReadable, listing_at, listings_at}
use Rattle.clip_engine.specs.declared.code.TheConstants.{FEED, FULL, LIMIT, LINES, NO_MEMORY}
use Rattle.clip_engine.specs.declared.parts.Part.{Part}
use Rattle.clip_engine.specs.declared.kept.Kept.{Kept}
use Rattle.clip_engine.specs.Listed.{IsUnread}
use Rattle.clip_engine.specs.declared.listed.Listed.{Listed}

-- Both keep something, and this holds of the two.
abbrev pub Between : Option Kept → Option Kept → (Kept → Kept → Type 0) → Type 0
Between None new holds = ⊥
Between (Some old) None holds = ⊥
Between (Some old) (Some new) holds = holds old new

-- it keeps something, and this holds of it
abbrev pub Keeps : Option Kept → (Kept → Type 0) → Type 0
Keeps None holds = ⊥
Keeps (Some kept) holds = holds kept

-- ---- lines

-- the number of what stands against a line: a line feed in it, the count of lines at its end, or no memory
abbrev pub IsUnanswered : List ℕ → EngineIs → ℕ → Type 0
IsUnanswered line engine code = ((code ≡ FEED) × (has_feed line ≡ true))
    ⊎ ((code ≡ LINES) × (engine.lines ≡ 18446744073709551615)) ⊎ (code ≡ NO_MEMORY)

-- a line was answered, or the engine is as it was, for a reason
abbrev pub LineTo : List ℕ → ℕ → Kept → Kept → Type 0
LineTo line code old new =
    (code ≡ 0 → (has_feed line ≡ false) × Replies old.engine new.engine line new.text.items)
    × ((code ≡ 0 → ⊥) → (new.engine ≡ old.engine) × IsUnanswered line old.engine code)

-- ---- queries registered

-- the number of texts that are none, or of the reason for which the query of these texts is refused
abbrev pub IsRefused : List ℕ → List ℕ → Bool → List ℕ → EngineIs → EngineIs → ℕ → Type 0
IsRefused id query has_listener listener old new code = IsNoText (AreTexts id query has_listener listener) code
    ⊎ ((r : Refusal) × (code ≡ number_of (unread.Refused r))
    × Registers old new (listing_at id query has_listener listener) (Err (unread.Refused r)))

-- a query was registered, or the engine is as it was, for a reason
abbrev pub RegisterTo : List ℕ → List ℕ → Bool → List ℕ → ℕ → Kept → Kept → Type 0
RegisterTo id query has_listener listener code old new =
    (code ≡ 0 → AreTexts id query has_listener listener
    × Registers old.engine new.engine (listing_at id query has_listener listener) (Ok tt))
    × ((code ≡ 0 → ⊥) → (new.engine ≡ old.engine)
    × IsRefused id query has_listener listener old.engine new.engine code)

-- They are not registered, for this reason and at this place.
abbrev pub IsRefusedAt : List Listed → EngineIs → EngineIs → ℕ → ℕ → Type 0
IsRefusedAt listed old new code which = IsUnread listed code which
    ⊎ ((r : Refusal) × (code ≡ number_of (unread.Refused r))
    × RegistersMany old new (listings_at listed) (Err (fault.Refused r which)))

-- all were registered, or the engine is as it was, for a reason
abbrev pub ManyTo : List Listed → ℕ → ℕ → Kept → Kept → Type 0
ManyTo listed code which old new =
    (code ≡ 0 → All IsReadable listed × RegistersMany old.engine new.engine (listings_at listed) (Ok tt))
    × ((code ≡ 0 → ⊥) → (new.engine ≡ old.engine) × IsRefusedAt listed old.engine new.engine code which)

-- ---- more changes

-- the number of bytes that are no text or no id, or for which there is no memory
abbrev pub IsNoId : List ℕ → ℕ → Type 0
IsNoId id code = IsNoText (IsUtf8 id) code ⊎ ((code ≡ LIMIT) × (is_id id ≡ false))

-- the query of this id was taken out, where there was one, or the engine is as it was, for a reason
abbrev pub DeleteTo : List ℕ → ℕ → ℕ → Kept → Kept → Type 0
DeleteTo id code deleted old new =
    (code ≡ 0 → IsUtf8 id × (is_id id ≡ true) × Accepts old.engine new.engine (Delete (id ∷ []))
    × (deleted ≡ applied (history_of old.engine) (Delete (id ∷ []))))
    × ((code ≡ 0 → ⊥) → (new.engine ≡ old.engine)
    × (IsNoId id code ⊎ ((code ≡ FULL) × IsFalse (has_room (history_of old.engine) (Delete (id ∷ []))))))

-- all queries were taken out, or the engine is as it was: it has no room for the change, or there is no memory
abbrev pub ClearTo : ℕ → Kept → Kept → Type 0
ClearTo code old new =
    (code ≡ 0 → Accepts old.engine new.engine Clear)
    × ((code ≡ 0 → ⊥) → (new.engine ≡ old.engine)
    × (((code ≡ FULL) × IsFalse (has_room (history_of old.engine) Clear)) ⊎ (code ≡ NO_MEMORY)))

-- the engine is purged, or as it was for want of memory
abbrev pub PurgeTo : ℕ → Kept → Kept → Type 0
PurgeTo code old new = (code ≡ 0 → new.engine ≡ purged_engine old.engine)
    × ((code ≡ 0 → ⊥) → (new.engine ≡ old.engine) × (code ≡ NO_MEMORY))

-- a snapshot stands there, or nothing for want of memory
abbrev pub SnapshotTo : ℕ → Option Kept → Option Kept → Type 0
SnapshotTo code old taken = (code ≡ 0 → Between old taken (λ kept snapshot. snapshot.engine ≡ kept.engine))
    × ((code ≡ 0 → ⊥) → (taken ≡ None) × (code ≡ NO_MEMORY))

-- ---- what is registered

-- whether a query is there, and if so its text
abbrev pub IsShown : Option Registered → Bool → List ℕ → Type 0
IsShown None has text = has ≡ false
IsShown (Some r) has text = (has ≡ true) × (text ≡ r.standing.text)

-- the text of the query of this id stands there, and the engine is as it was
abbrev pub ShowTo : List ℕ → ℕ → Bool → Kept → Kept → Type 0
ShowTo id code has old new =
    (code ≡ 0 → IsUtf8 id × (is_id id ≡ true)
    × IsShown (finite.get (replay (history_of old.engine)) id) has new.text.items)
    × ((code ≡ 0 → ⊥) → IsNoId id code)
    × (new.engine ≡ old.engine)

-- the ids of the registered queries stand there in their byte order, and the engine is as it was
abbrev pub IdsTo : ℕ → Kept → Kept → Type 0
IdsTo code old new =
    (code ≡ 0 → new.text.items ≡ ids_bytes (finite.keys (replay (history_of old.engine))))
    × ((code ≡ 0 → ⊥) → code ≡ NO_MEMORY)
    × (new.engine ≡ old.engine)

-- so many queries are registered, and the engine is as it was
abbrev pub CountTo : ℕ → ℕ → Kept → Kept → Type 0
CountTo code count old new = (code ≡ 0 → count ≡ finite.len (replay (history_of old.engine)))
    × ((code ≡ 0 → ⊥) → code ≡ NO_MEMORY)
    × (new.engine ≡ old.engine)

-- the bytes that were left go to room of just their size, and none are left then; else all is as it was
abbrev pub TakeTo : List ℕ → List ℕ → Bool → Kept → Kept → Type 0
TakeTo room filled copied old new = (copied ≡ (length room == length old.text.items))
    × (new.engine ≡ old.engine)
    × (copied ≡ true → (filled ≡ old.text.items) × (new.text.items ≡ []))
    × (copied ≡ false → (filled ≡ room) × (new ≡ old))

-- ---- what is found and told

-- the number of texts that are none, or of an article beyond a limit
abbrev pub IsNoArticle : List ℕ → List (List ℕ × List ℕ) → ℕ → Type 0
IsNoArticle id fields code = IsNoText (IsUtf8 id × All IsField fields) code
    ⊎ ((code ≡ LIMIT) × (fault_of id fields ≡ None → ⊥))

-- this was found, and the engine is as it was
abbrev pub MatchTo : List ℕ → List (List ℕ × List ℕ) → ℕ → Kept → Kept → Type 0
MatchTo id fields code old new =
    (code ≡ 0 → IsUtf8 id × All IsField fields × (fault_of id fields ≡ None)
    × IsFoundAt old.engine id fields new.text.items)
    × ((code ≡ 0 → ⊥) → IsNoArticle id fields code)
    × (new.engine ≡ old.engine)

-- what the parts found was gathered, and the engine is as it was
abbrev pub GatherTo : List Part → ℕ → Kept → Kept → Type 0
GatherTo parts code old new = (code ≡ 0 → AreGatherable parts × (new.text.items ≡ gathered_bytes parts))
    × ((code ≡ 0 → ⊥) → IsUngathered parts code)
    × (new.engine ≡ old.engine)

-- this is told of a query's text, and the engine is as it was
abbrev pub ExplainTo : List ℕ → ℕ → Kept → Kept → Type 0
ExplainTo query code old new = (code ≡ 0 → IsUtf8 query × Tells query new.text.items)
    × ((code ≡ 0 → ⊥) → IsNoText (IsUtf8 query) code)
    × (new.engine ≡ old.engine)

-- the words of a text stand there, and the engine is as it was
abbrev pub WordsTo : List ℕ → ℕ → Kept → Kept → Type 0
WordsTo text code old new = (code ≡ 0 → IsUtf8 text × (new.text.items ≡ spans_bytes (spans_of text)))
    × ((code ≡ 0 → ⊥) → IsNoText (IsUtf8 text) code)
    × (new.engine ≡ old.engine)

-- the number of bytes that are no line, or for which there is no memory
abbrev pub IsNoLine : List ℕ → ℕ → Type 0
IsNoLine line code = ((code ≡ FEED) × (has_feed line ≡ true)) ⊎ (code ≡ NO_MEMORY)

-- this is told of a line, and the engine is as it was
abbrev pub ExplainLineTo : List ℕ → ℕ → Kept → Kept → Type 0
ExplainLineTo line code old new = (code ≡ 0 → (has_feed line ≡ false) × Answers (ask.line line) new.text.items)
    × ((code ≡ 0 → ⊥) → IsNoLine line code)
    × (new.engine ≡ old.engine)
