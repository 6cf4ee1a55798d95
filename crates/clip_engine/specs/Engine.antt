-- What contracts see of an engine, and what its calls do.
use Rattle.std.specs.Prelude.{◌≡◌, ℕ, suc, ◌==◌, List, [], ◌∷◌, Bool, true, false, codes, refl, Result, Ok, Err, ⊤}
use Rattle.std.specs.Prelude.{OnOk}
use Rattle.std.specs.Coded.{Coded, code_by, coded×, coded_ℕ, coded_bool}
use Rattle.std.specs.List.{list_any}
use Rattle.clip_words.specs.Ids.{is_id}
use Rattle.clip_model.specs.Standing.{Standing}
use Rattle.clip_model.specs.History.{History, Command, Register, has_room, with_command}
use Rattle.clip_listen.specs.Heard.{Hearer}
use Rattle.clip_protocol.specs.Request.{Listing}
use Rattle.clip_registry.specs.Plan.{AreFew}
use Rattle.clip_registry.specs.Merging.{purged}
use Rattle.clip_registry.specs.RegistryState.{beginning, state_after}
use Rattle.clip_registry.specs.Steps.Turns.{TakesTurns}
use Rattle.clip_protocol.specs.LineMeaning.{Meaning, Means, after, purging, IsTakenAs, IsRefusedFor}
use Rattle.clip_protocol.specs.Reply.{reply}
use Rattle.clip_stream.specs.declared.form.Form.{Form}
use Rattle.clip_stream.specs.declared.form.Form.TheVariants.{Plain, WithHits}
use Rattle.clip_protocol.specs.declared.refusal.Unread.{Unread}
use Rattle.clip_protocol.specs.declared.refusal.Unread.TheVariants as unread
use Rattle.clip_protocol.specs.declared.refusal.Refusal.TheVariants as reason
use Rattle.clip_front.specs.Outcome.{names_in}
use Rattle.clip_front.specs.Steps.Taking.{PurgesIf}
use Rattle.clip_run.specs.Unpurged.{GoesOnUnpurged}
use Rattle.clip_run.specs.contracts.own_registrar.OwnRegistrar as own
use Rattle.clip_run.specs.declared.own_registrar.OwnRegistrar.{OwnRegistrar}

-- its own registrar, how many lines were answered, and whether replies show hits
pub record EngineIs : Type 0 where
  pub owned : OwnRegistrar
  pub lines : ℕ
  pub hits : Bool

abbrev pub engine_code : Coded EngineIs
engine_code = code_by (OwnRegistrar × (ℕ × Bool)) (coded× own.the_row.coded (coded× coded_ℕ coded_bool))
    (λ e. (e.owned, (e.lines, e.hits)))
    (λ p. record { owned = p.0; lines = p.1.0; hits = p.1.1 }) (λ _. refl)

-- the commands that were accepted
abbrev pub history_of : EngineIs → History
history_of e = e.owned.registrar.history

abbrev pub form_of : Bool → Form
form_of true = WithHits
form_of false = Plain

-- an engine that was told nothing yet
abbrev pub fresh : Bool → EngineIs
fresh hits = record { owned = record { registrar = beginning false; merges = Ok tt }; lines = 0; hits = hits }

-- The registrar accepts a command and takes merge turns then; where none of these was refused memory, segments are few
-- after them. The count of lines stays.
pub record Accepts (old new : EngineIs) (command : Command) : Type 0 where
  pub history : history_of new ≡ with_command (history_of old) 1 command
  pub turns : TakesTurns false (state_after old.owned.registrar 1 command) new.owned.registrar
  pub few : OnOk new.owned.merges (AreFew new.owned.registrar.segments)
  pub lines : new.lines ≡ old.lines
  pub hits : new.hits ≡ old.hits

-- the engine with its registrar purged: dead entries are gone, and all else stays
abbrev pub purged_engine : EngineIs → EngineIs
purged_engine e = record e { owned = record e.owned { registrar = purged e.owned.registrar } }

-- ---- listeners

-- the listeners of the program, which have heard nothing
abbrev pub mail_hearer : Hearer
mail_hearer = record {
  name = codes "mail";
  style = record { head = codes "mail: "; middle = codes " in " };
  heard = [];
  keeps = false;
}

abbrev pub feed_hearer : Hearer
feed_hearer = record {
  name = codes "feed";
  style = record { head = codes "feed "; middle = codes "/" };
  heard = [];
  keeps = false;
}

abbrev pub house : List Hearer
house = mail_hearer ∷ feed_hearer ∷ []

-- ---- lines

-- it has a line feed
abbrev pub has_feed : List ℕ → Bool
has_feed bytes = list_any (λ b. b == 10) bytes

-- From the first history to the second by line n, and in this form this is the text of its reply.
pub record Answers (form : Form) (old new : History) (n : ℕ) (line text : List ℕ) : Type 0 where
  pub meaning : Meaning
  pub means : Means (names_in house) old line meaning
  pub history : new ≡ after old meaning
  pub replies : text ≡ reply form house n old meaning

-- By the line of these bytes, the next of the engine, it goes from the first to the second, and this is the text of its
-- reply. Where the line means a purge, the registrar is purged, once; no other line purges it.
pub record Replies (old new : EngineIs) (line text : List ℕ) : Type 0 where
  pub answers : Answers (form_of old.hits) (history_of old) (history_of new) (suc old.lines) line text
  pub purges : PurgesIf (Means (names_in house) (history_of old) line purging)
      (λ old new. new.registrar ≡ purged old.registrar) GoesOnUnpurged old.owned new.owned
  pub lines : new.lines ≡ suc old.lines
  pub hits : new.hits ≡ old.hits

-- ---- changes

-- The listed query is registered, or refused for the first reason that holds.
abbrev pub Registers : EngineIs → EngineIs → Listing → Result (Unit {0}) Unread → Type 0
Registers old new l (Ok _) = (s : Standing) × IsTakenAs (names_in house) l s
    × (has_room (history_of old) (Register (s ∷ [])) ≡ true)
    × Accepts old new (Register (s ∷ []))
Registers old new l (Err (unread.Refused reason.Limit)) = is_id l.id ≡ false
Registers old new l (Err (unread.Refused reason.Query)) =
    (is_id l.id ≡ true) × IsRefusedFor (names_in house) l reason.Query
Registers old new l (Err (unread.Refused reason.Listener)) =
    (is_id l.id ≡ true) × IsRefusedFor (names_in house) l reason.Listener
Registers old new l (Err (unread.Refused reason.Full)) = (s : Standing) × IsTakenAs (names_in house) l s
    × (has_room (history_of old) (Register (s ∷ [])) ≡ false)
Registers old new l (Err (unread.Refused reason.Long)) = ⊥
Registers old new l (Err (unread.Refused reason.Json)) = ⊥
Registers old new l (Err (unread.Refused reason.Shape)) = ⊥
Registers old new l (Err unread.NoMemory) = ⊤
