-- The history of accepted commands, and the registry that it amounts to.
use Rattle.std.specs.Prelude.{◌≡◌, ℕ, ◌+◌, ◌-◌, ◌&&◌, ◌==◌, ◌<◌, ◌≤◌, ◌⊎◌, suc, List, [], ◌∷◌, ◌++◌, length, map}
use Rattle.std.specs.Prelude.{filter, Bool, true, nat_le, nat_lt, IsTrue, refl}
use Rattle.std.specs.List.{list_any, list_all}
use Rattle.std.specs.FinMap as finite
use Rattle.std.specs.Coded.{Coded, code_by, coded×, coded⊎, coded_ℕ, coded_list}
use Rattle.std.proofs.Common.{inl, inr}
use Rattle.clip_words.specs.Ids.{is_id}
use Rattle.clip_words.specs.Order.{bytes_cmp}
use Rattle.clip_grammar.specs.TreeCode.{bytes_code}
use Rattle.clip_model.specs.Standing.{Standing, standing_code}
use Rattle.clip_model.specs.declared.limits.TheConstants.{MOST_LISTED, MOST_LIVE, MOST_ENTRIES, MOST_CALLERS}

-- ---- commands and entries

-- a change of the registry: register these in order, delete these ids, or clear it
pub data Command : Type 0 where
  Register : List Standing → Command
  Delete : List (List ℕ) → Command
  Clear : Command

-- a command that was accepted, under the number that it has among its caller's
pub record HistoryEntry : Type 0 where
  pub caller : ℕ
  pub number : ℕ
  pub command : Command

abbrev pub History : Type 0
History = List HistoryEntry

-- ---- replay

-- a standing query that is registered, and its place among all that were ever listed, from 1
pub record Registered : Type 0 where
  pub standing : Standing
  pub seq : ℕ

-- the registered queries by id
abbrev pub Registry : Type 0
Registry = finite.FinMap bytes_cmp Registered

-- how many queries a command lists
abbrev pub lists : Command → ℕ
lists (Register standings) = length standings
lists (Delete ids) = 0
lists Clear = 0

-- the queries that a command lists
abbrev pub queries_of : Command → List Standing
queries_of (Register standings) = standings
queries_of (Delete ids) = []
queries_of Clear = []

-- the queries that the registers of a history list, in order
abbrev pub listed_queries : History → List Standing
listed_queries [] = []
listed_queries (e ∷ h) = queries_of e.command ++ listed_queries h

-- how many queries the registers of a history list
abbrev pub listed : History → ℕ
listed [] = 0
listed (e ∷ h) = lists e.command + listed h

-- each query takes the place of the one with its id; n queries were listed before
abbrev pub register_all : ℕ → List Standing → Registry → Registry
register_all n [] registry = registry
register_all n (s ∷ ss) registry =
    register_all (suc n) ss (finite.insert registry s.id (record { standing = s; seq = suc n }))

abbrev pub remove_all : List (List ℕ) → Registry → Registry
remove_all [] registry = registry
remove_all (id ∷ ids) registry = remove_all ids (finite.remove registry id)

-- the registry after a command, before which n queries were listed
abbrev pub after_command : ℕ → Command → Registry → Registry
after_command n (Register standings) registry = register_all n standings registry
after_command n (Delete ids) registry = remove_all ids registry
after_command n Clear registry = finite.empty

abbrev pub replay_onto : ℕ → History → Registry → Registry
replay_onto n [] registry = registry
replay_onto n (e ∷ h) registry = replay_onto (n + lists e.command) h (after_command n e.command registry)

-- the registry after a history
abbrev pub replay : History → Registry
replay h = replay_onto 0 h finite.empty

-- the seq is that of a registered query
abbrev pub is_live_in : Registry → ℕ → Bool
is_live_in registry seq = list_any (λ e. e.1.seq == seq) (finite.entries registry)

abbrev pub is_live : History → ℕ → Bool
is_live h seq = is_live_in (replay h) seq

-- what a command after a history counts: the distinct ids that it registers, those that it deletes and that were there,
-- or all that were there
abbrev pub applied_to : Registry → Command → ℕ
applied_to registry (Register standings) = finite.len (register_all 0 standings finite.empty)
applied_to registry (Delete ids) = finite.len registry - finite.len (remove_all ids registry)
applied_to registry Clear = finite.len registry

abbrev pub applied : History → Command → ℕ
applied h command = applied_to (replay h) command

-- ---- legality

-- the command lists no more than it may, and ids that may be ids
abbrev pub fits : Command → Bool
fits (Register standings) = nat_le (length standings) MOST_LISTED
fits (Delete ids) = nat_le (length ids) MOST_LISTED && list_all is_id ids
fits Clear = true

-- the commands of a caller, in order
abbrev pub own : History → ℕ → List Command
own h caller = map (λ e. e.command) (filter (λ e. e.caller == caller) h)

-- Callers are in their range, each caller's numbers are 1, 2, 3, .. in order, each command fits,
-- no prefix of the history replays to more queries than may be live, and it is not too long.
pub record IsLegal (h : History) : Type 0 where
  pub callers : (before after : History) (e : HistoryEntry) → h ≡ before ++ e ∷ after
      → (0 < e.caller) × (e.caller ≤ MOST_CALLERS)
  pub numbers : (before after : History) (e : HistoryEntry) → h ≡ before ++ e ∷ after
      → e.number ≡ suc (length (own before e.caller))
  pub commands : (before after : History) (e : HistoryEntry) → h ≡ before ++ e ∷ after → IsTrue (fits e.command)
  pub small : (before after : History) → h ≡ before ++ after → finite.len (replay before) ≤ MOST_LIVE
  pub short : length h ≤ MOST_ENTRIES

-- one entry more breaks no limit
abbrev pub has_room : History → Command → Bool
has_room h command = nat_le (finite.len (after_command (listed h) command (replay h))) MOST_LIVE
    && nat_lt (length h) MOST_ENTRIES

-- the entry of a caller's next command
abbrev pub next_entry : History → ℕ → Command → HistoryEntry
next_entry h caller command = record { caller = caller; number = suc (length (own h caller)); command = command }

-- the history with a caller's next command
abbrev pub with_command : History → ℕ → Command → History
with_command h caller command = h ++ next_entry h caller command ∷ []

-- ---- codes

abbrev command_parts : Command → List Standing ⊎ (List (List ℕ) ⊎ ℕ)
command_parts (Register standings) = inl standings
command_parts (Delete ids) = inr (inl ids)
command_parts Clear = inr (inr 0)

abbrev command_made : List Standing ⊎ (List (List ℕ) ⊎ ℕ) → Command
command_made (inl standings) = Register standings
command_made (inr (inl ids)) = Delete ids
command_made (inr (inr n)) = Clear

pub command_again : (c : Command) → command_made (command_parts c) ≡ c
command_again (Register standings) = refl
command_again (Delete ids) = refl
command_again Clear = refl

abbrev pub command_code : Coded Command
command_code = code_by (List Standing ⊎ (List (List ℕ) ⊎ ℕ))
    (coded⊎ (coded_list standing_code) (coded⊎ (coded_list bytes_code) coded_ℕ)) command_parts command_made
    command_again

abbrev pub entry_code : Coded HistoryEntry
entry_code = code_by (ℕ × (ℕ × Command)) (coded× coded_ℕ (coded× coded_ℕ command_code))
    (λ e. (e.caller, (e.number, e.command))) (λ p. record { caller = p.0; number = p.1.0; command = p.1.1 }) (λ _. refl)

abbrev pub history_code : Coded History
history_code = coded_list entry_code

abbrev pub registered_code : Coded Registered
registered_code = code_by (Standing × ℕ) (coded× standing_code coded_ℕ) (λ r. (r.standing, r.seq))
    (λ p. record { standing = p.0; seq = p.1 }) (λ _. refl)

abbrev pub registry_code : Coded Registry
registry_code = finite.code bytes_code registered_code
