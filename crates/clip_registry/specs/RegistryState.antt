-- A registry as contracts see it: its segments and its history.
use Rattle.std.specs.Prelude.{◌≡◌, ◌↔◌, ℕ, suc, ◌≤◌, Bool, cond, List, [], ◌∷◌, ◌++◌, filter, Some, IsTrue, All}
use Rattle.std.specs.Prelude.{Contains, refl}
use Rattle.std.specs.FinMap as finite
use Rattle.std.specs.Coded.{Coded, code_by, coded×, coded_list, coded_bool}
use Rattle.clip_model.specs.Standing.{Standing}
use Rattle.clip_model.specs.History.{History, Command, Register, Delete, Clear, Registered, Registry, replay, listed}
use Rattle.clip_model.specs.History.{is_live, is_live_in, after_command, with_command, history_code, registered_code}
use Rattle.clip_indexed.specs.Segment.{IsRising, all_entries}

-- segments, each as its list of entries, the history of accepted commands, and whether it is kept to be read
pub record RegistryState : Type 0 where
  pub segments : List (List Registered)
  pub history : History
  pub keeps : Bool

abbrev pub state_code : Coded RegistryState
state_code = code_by (List (List Registered) × (History × Bool))
    (coded× (coded_list (coded_list registered_code)) (coded× history_code coded_bool))
    (λ s. (s.segments, (s.history, s.keeps)))
    (λ p. record { segments = p.0; history = p.1.0; keeps = p.1.1 }) (λ _. refl)

-- no segment and no command yet, of a history that is kept or not
abbrev pub beginning : Bool → RegistryState
beginning keeps = record { segments = []; history = []; keeps = keeps }

-- what can be read of a history: all of it where it is kept, and else nothing
abbrev pub kept_history : Bool → History → History
kept_history keeps history = cond keeps history []

-- Seqs rise through all segments, none is above those listed, and the live entries are, by id, exactly the registered
-- queries.
pub record IsWhole (state : RegistryState) : Type 0 where
  pub rising : IsRising (all_entries state.segments)
  pub within : All (λ r. r.seq ≤ listed state.history) (all_entries state.segments)
  pub live_entries : (r : Registered)
      → (finite.get (replay state.history) r.standing.id ≡ Some r)
      ↔ (Contains (all_entries state.segments) r × IsTrue (is_live state.history r.seq))

-- the queries with their seqs, where n were listed before
abbrev pub numbered : ℕ → List Standing → List Registered
numbered n [] = []
numbered n (s ∷ ss) = record { standing = s; seq = suc n } ∷ numbered (suc n) ss

-- of the queries that a register lists, those that stand after it, where n were listed before
abbrev pub standing_after : ℕ → List Standing → Registry → List Registered
standing_after n standings registry =
    filter (λ r. is_live_in (after_command n (Register standings) registry) r.seq) (numbered n standings)

-- Where n were listed before: a register of at least one query adds a segment at the end, a delete leaves the segments,
-- and a clear takes all away.
abbrev pub segments_after : List (List Registered) → ℕ → Registry → Command → List (List Registered)
segments_after segments n registry (Register []) = segments
segments_after segments n registry (Register (s ∷ ss)) = segments ++ standing_after n (s ∷ ss) registry ∷ []
segments_after segments n registry (Delete ids) = segments
segments_after segments n registry Clear = []

-- the registry after a caller's next command
abbrev pub state_after : RegistryState → ℕ → Command → RegistryState
state_after state caller command = record state {
  segments = segments_after state.segments (listed state.history) (replay state.history) command;
  history = with_command state.history caller command;
}
