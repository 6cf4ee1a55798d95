-- A registry divided by ids.
use Rattle.std.specs.Prelude.{◌≡◌, ℕ, zero, suc, ◌+◌, ◌<◌, ◌==◌, Bool, false, cond, List, [], ◌∷◌, map, filter, Option}
use Rattle.std.specs.Prelude.{None, Some, option_map, bytes_eq, IsTrue}
use Rattle.std.specs.FinMap as finite
use Rattle.std.specs.FinMap.Entries.{by_order}
use Rattle.clip_words.specs.Order.{bytes_cmp}
use Rattle.clip_meaning.specs.Article.{ArticleValue}
use Rattle.clip_model.specs.Standing.{Standing}
use Rattle.clip_model.specs.History.{History, HistoryEntry, Command, Register, Delete, Clear, IsLegal, replay, applied}
use Rattle.clip_model.specs.History.{with_command, has_room}
use Rattle.clip_model.specs.Alerts.{Alert, alerts}

-- ---- a part of a history

-- the command with only the ids that are kept, in order
abbrev pub kept_command : (List ℕ → Bool) → Command → Command
kept_command keeps (Register standings) = Register (filter (λ s. keeps s.id) standings)
kept_command keeps (Delete ids) = Delete (filter keeps ids)
kept_command keeps Clear = Clear

abbrev pub kept_entry : (List ℕ → Bool) → HistoryEntry → HistoryEntry
kept_entry keeps e = record { caller = e.caller; number = e.number; command = kept_command keeps e.command }

-- each entry stays in its place, under its caller and number
abbrev pub kept : (List ℕ → Bool) → History → History
kept keeps h = map (kept_entry keeps) h

-- ---- divisions

-- each id belongs to one of so many parts, numbered from 0
pub record Division : Type 0 where
  pub parts : ℕ
  pub part : List ℕ → ℕ
  pub within : (id : List ℕ) → part id < parts

-- the id belongs to part k
abbrev pub is_in : Division → ℕ → List ℕ → Bool
is_in d k id = d.part id == k

-- part k of a history
abbrev pub shard : Division → ℕ → History → History
shard d k h = kept (is_in d k) h

-- f 0 + f 1 + .. of the parts below n
abbrev pub sum_of : ℕ → (ℕ → ℕ) → ℕ
sum_of zero f = 0
sum_of (suc n) f = sum_of n f + f n

-- ---- alerts, merged by id

-- an alert before the first whose id is not below its own
abbrev pub placed : Alert → List Alert → List Alert
placed a [] = a ∷ []
placed a (b ∷ bs) = by_order (bytes_cmp a.query b.query) (a ∷ b ∷ bs) (a ∷ b ∷ bs) (b ∷ placed a bs)

abbrev pub merged : List Alert → List Alert → List Alert
merged [] bs = bs
merged (a ∷ rest) bs = placed a (merged rest bs)

-- what the parts below n give, merged
abbrev pub merged_of : ℕ → (ℕ → List Alert) → List Alert
merged_of zero give = []
merged_of (suc n) give = merged (merged_of n give) (give n)

-- the alert's query has the listener of this name
abbrev pub is_for : List ℕ → Alert → Bool
is_for name alert = elim alert.listener [ None ↦ false | Some n ↦ bytes_eq n name ]

-- the alerts that the listener of this name hears of an article
abbrev pub heard : List ℕ → History → ArticleValue → List Alert
heard name h article = filter (is_for name) (alerts h article)

-- ---- the laws; histories need not be legal where none says so

-- the standing query that is registered under an id
abbrev pub standing_of : History → List ℕ → Option Standing
standing_of h id = option_map (λ r. r.standing) (finite.get (replay h) id)

-- a part has under each id of its own what the whole has there, and no other id
abbrev pub PartsAreRegistered : Type 0
PartsAreRegistered = (keeps : List ℕ → Bool) (h : History) (id : List ℕ)
    → standing_of (kept keeps h) id ≡ cond (keeps id) (standing_of h id) None

-- the alerts of a part are those of the whole whose ids are its own
abbrev pub PartsAlert : Type 0
PartsAlert = (keeps : List ℕ → Bool) (h : History) (article : ArticleValue)
    → alerts (kept keeps h) article ≡ filter (λ a. keeps a.query) (alerts h article)

-- the alerts of all parts, merged by id, are those of the whole
abbrev pub PartsAreMerged : Type 0
PartsAreMerged = (d : Division) (h : History) (article : ArticleValue)
    → merged_of d.parts (λ k. alerts (shard d k h) article) ≡ alerts h article

-- the parts have together as many queries as the whole
abbrev pub PartsAreCounted : Type 0
PartsAreCounted = (d : Division) (h : History)
    → sum_of d.parts (λ k. finite.len (replay (shard d k h))) ≡ finite.len (replay h)

-- what a command counts is what its parts count together
abbrev pub PartsCount : Type 0
PartsCount = (d : Division) (h : History) (command : Command)
    → sum_of d.parts (λ k. applied (shard d k h) (kept_command (is_in d k) command)) ≡ applied h command

-- a listener hears of a part what it hears of the whole with ids of the part
abbrev pub PartsAreHeard : Type 0
PartsAreHeard = (keeps : List ℕ → Bool) (h : History) (name : List ℕ) (article : ArticleValue)
    → heard name (kept keeps h) article ≡ filter (λ a. keeps a.query) (heard name h article)

-- a listener hears of all parts, merged by id, what it hears of the whole
abbrev pub PartsAreHeardMerged : Type 0
PartsAreHeardMerged = (d : Division) (h : History) (name : List ℕ) (article : ArticleValue)
    → merged_of d.parts (λ k. heard name (shard d k h) article) ≡ heard name h article

-- a part of a legal history is legal
abbrev pub PartsAreLegal : Type 0
PartsAreLegal = (keeps : List ℕ → Bool) (h : History) → IsLegal h → IsLegal (kept keeps h)

-- a part goes on with its part of the next command, under that command's number
abbrev pub PartsGoOn : Type 0
PartsGoOn = (keeps : List ℕ → Bool) (h : History) (caller : ℕ) (command : Command)
    → kept keeps (with_command h caller command) ≡ with_command (kept keeps h) caller (kept_command keeps command)

-- a part has room for its part of a command where the whole has room for the command
abbrev pub PartsHaveRoom : Type 0
PartsHaveRoom = (keeps : List ℕ → Bool) (h : History) (command : Command) → IsTrue (has_room h command)
    → IsTrue (has_room (kept keeps h) (kept_command keeps command))
