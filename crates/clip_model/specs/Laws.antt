-- Laws of histories.
use Rattle.std.specs.Prelude.{◌≡◌, ℕ, ◌-◌, ◌≤◌, ◌<◌, List, [], ◌∷◌, ◌++◌, length, slice_get, Some, true, false, IsTrue}
use Rattle.std.specs.FinMap as finite
use Rattle.clip_model.specs.declared.limits.TheConstants.{MOST_CALLERS}
use Rattle.clip_model.specs.History.{History, HistoryEntry, Command, Registered, IsLegal, replay, listed}
use Rattle.clip_model.specs.History.{listed_queries, after_command, is_live, with_command, has_room, fits}

-- the registry after one entry more is that after the entry's command
abbrev pub ReplaysOn : Type 0
ReplaysOn = (h : History) (e : HistoryEntry) → replay (h ++ e ∷ []) ≡ after_command (listed h) e.command (replay h)

-- each prefix of a legal history is legal
abbrev pub FrontsAreLegal : Type 0
FrontsAreLegal = (before after : History) → IsLegal (before ++ after) → IsLegal before

-- a legal history goes on with the next command of a caller where it has room
abbrev pub GoesOn : Type 0
GoesOn = (h : History) (caller : ℕ) (command : Command) → IsLegal h → 0 < caller → caller ≤ MOST_CALLERS
    → IsTrue (fits command) → IsTrue (has_room h command) → IsLegal (with_command h caller command)

-- the number listed is the length of the list of all queries
abbrev pub ListedAreCounted : Type 0
ListedAreCounted = (h : History) → length (listed_queries h) ≡ listed h

-- The query is under its id, and with seq n it is the n-th of the queries that were listed.
pub record IsListed (h : History) (id : List ℕ) (r : Registered) : Type 0 where
  pub key : r.standing.id ≡ id
  pub from : 0 < r.seq
  pub to : r.seq ≤ listed h
  pub place : slice_get (listed_queries h) (r.seq - 1) ≡ Some r.standing

-- each registered query was listed, in the place of its seq
abbrev pub RegisteredAreListed : Type 0
RegisteredAreListed = (h : History) (id : List ℕ) (r : Registered) → finite.get (replay h) id ≡ Some r → IsListed h id r

-- each live seq is that of a registered query, and of no other
pub record IsOfOne (h : History) (seq : ℕ) : Type 0 where
  pub query : Registered
  pub has : query.seq ≡ seq
  pub registered : finite.get (replay h) query.standing.id ≡ Some query
  pub listed : IsListed h query.standing.id query
  pub alone : (id : List ℕ) (r : Registered) → finite.get (replay h) id ≡ Some r → r.seq ≡ seq → r ≡ query

abbrev pub SeqsAreListed : Type 0
SeqsAreListed = (h : History) (seq : ℕ) → is_live h seq ≡ true → IsOfOne h seq

-- A seq that was given and is not live stays so, however the history goes on.
abbrev pub DeadStaysDead : Type 0
DeadStaysDead = (h more : History) (seq : ℕ) → seq ≤ listed h → is_live h seq ≡ false → is_live (h ++ more) seq ≡ false
