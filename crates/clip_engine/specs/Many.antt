-- Lists of queries that are registered together.
use Rattle.std.specs.Prelude.{◌≡◌, ◌⊎◌, ◌<◌, ℕ, zero, suc, List, [], ◌∷◌, length, map, true, false, Result, Ok, Err, ⊤}
use Rattle.std.specs.Prelude.{Vec}
use Rattle.std.specs.declared.alloc.Global.{Global}
use Rattle.std.specs.declared.sync.Arc.{Arc}
use Rattle.std.specs.Arc.{arc_value}
use Rattle.clip_words.specs.Ids.{is_id}
use Rattle.clip_model.specs.Standing.{Standing}
use Rattle.clip_model.specs.History.{Register, has_room}
use Rattle.clip_model.specs.declared.limits.TheConstants.{MOST_LISTED}
use Rattle.clip_standing.specs.declared.standing.Standing as code
use Rattle.clip_protocol.specs.Request.{Listing}
use Rattle.clip_protocol.specs.LineMeaning.{IsTakenAs, IsRefusedFor}
use Rattle.clip_protocol.specs.declared.listing.ListFault.{ListFault}
use Rattle.clip_protocol.specs.declared.listing.ListFault.TheVariants as fault
use Rattle.clip_protocol.specs.declared.refusal.Refusal.{Refusal}
use Rattle.clip_protocol.specs.declared.refusal.Refusal.TheVariants as reason
use Rattle.clip_protocol.specs.declared.refusal.Unread.{Unread}
use Rattle.clip_protocol.specs.declared.refusal.Unread.TheVariants as unread
use Rattle.clip_front.specs.Outcome.{names_in}
use Rattle.clip_engine.specs.Engine.{EngineIs, Accepts, history_of, house}

-- ---- one of them

-- the listed query is this standing one
abbrev pub IsIn : Listing → Standing → Type 0
IsIn l s = (is_id l.id ≡ true) × IsTakenAs (names_in house) l s

-- why it is refused by itself: its id is none; or that is one, and its text is no query or its listener is not here
abbrev pub IsOut : Listing → Refusal → Type 0
IsOut l reason.Limit = is_id l.id ≡ false
IsOut l reason.Query = (is_id l.id ≡ true) × IsRefusedFor (names_in house) l reason.Query
IsOut l reason.Listener = (is_id l.id ≡ true) × IsRefusedFor (names_in house) l reason.Listener
IsOut l reason.Full = ⊥
IsOut l reason.Long = ⊥
IsOut l reason.Json = ⊥
IsOut l reason.Shape = ⊥

abbrev pub TakesOne : Listing → Result (Arc code.Standing Global) Unread → Type 0
TakesOne l (Ok s) = IsIn l (arc_value s)
TakesOne l (Err (unread.Refused r)) = IsOut l r
TakesOne l (Err unread.NoMemory) = ⊤

-- ---- all of them

-- each in order
abbrev pub AreIn : List Listing → List Standing → Type 0
AreIn [] [] = ⊤
AreIn (l ∷ ls) (s ∷ ss) = IsIn l s × AreIn ls ss
AreIn [] (s ∷ ss) = ⊥
AreIn (l ∷ ls) [] = ⊥

-- the query at this place is refused for this reason, and each before it is taken
abbrev pub FirstOut : List Listing → Refusal → ℕ → Type 0
FirstOut [] r k = ⊥
FirstOut (l ∷ ls) r zero = IsOut l r
FirstOut (l ∷ ls) r (suc k) = ((s : Standing) × IsIn l s) × FirstOut ls r k

abbrev pub TakesMany : List Listing → Result (Vec (Arc code.Standing Global) Global) ListFault → Type 0
TakesMany ls (Ok all) = AreIn ls (map arc_value all.items)
TakesMany ls (Err (fault.Refused r k)) = FirstOut ls r k
TakesMany ls (Err fault.NoMemory) = ⊤

-- The listed queries are registered in one change, or refused for a reason and at a place: more than one change lists,
-- the first that is refused by itself, or no room for all of them.
abbrev pub RegistersMany : EngineIs → EngineIs → List Listing → Result (Unit {0}) ListFault → Type 0
RegistersMany old new ls (Ok _) = (ss : List Standing) × AreIn ls ss
    × (has_room (history_of old) (Register ss) ≡ true) × Accepts old new (Register ss)
RegistersMany old new ls (Err (fault.Refused reason.Limit k)) =
    ((MOST_LISTED < length ls) × (k ≡ MOST_LISTED)) ⊎ FirstOut ls reason.Limit k
RegistersMany old new ls (Err (fault.Refused reason.Query k)) = FirstOut ls reason.Query k
RegistersMany old new ls (Err (fault.Refused reason.Listener k)) = FirstOut ls reason.Listener k
RegistersMany old new ls (Err (fault.Refused reason.Full k)) = (ss : List Standing) × AreIn ls ss
    × (has_room (history_of old) (Register ss) ≡ false) × (k ≡ length ls)
RegistersMany old new ls (Err (fault.Refused reason.Long k)) = ⊥
RegistersMany old new ls (Err (fault.Refused reason.Json k)) = ⊥
RegistersMany old new ls (Err (fault.Refused reason.Shape k)) = ⊥
RegistersMany old new ls (Err fault.NoMemory) = ⊤
