-- What a journal keeps, how it is spelled, and what it is to read it back.
use Rattle.std.specs.Prelude.{◌≡◌, ℕ, ◌+◌, ◌<◌, ◌^◌, List, [], ◌∷◌, ◌++◌, length, map, take, drop, Vec}
use Rattle.std.specs.declared.alloc.Global.{Global}
use Rattle.clip_journal.specs.Entries.{numbers, entries, link_behind, first_link, IsTorn}

-- How many commands were accepted before it was written, the spellings of the queries that were live then, and the
-- spellings of the commands that were accepted since, in order.
pub record Kept : Type 0 where
  pub changes : ℕ
  pub live : List (List ℕ)
  pub since : List (List ℕ)

-- What its entries say: first both numbers, then each live query as one whole with that head, then each command.
abbrev pub said_by : Kept → List (List ℕ)
said_by kept = numbers kept.changes (length kept.live) ∷ (kept.live ++ kept.since)

abbrev pub bytes_of : Kept → List ℕ
bytes_of kept = entries first_link 0 (said_by kept)

-- The bytes are those of what is kept, and then less than an entry. There is no other reading of them.
pub record Reads (bytes : List ℕ) (kept : Kept) (torn : List ℕ) : Type 0 where
  pub counted : kept.changes + length kept.since < 2 ^ 63
  pub parts : bytes ≡ bytes_of kept ++ torn
  pub rest : IsTorn (link_behind first_link 0 (said_by kept)) (length (said_by kept)) torn

-- with one command more
abbrev pub with_command : Kept → List ℕ → Kept
with_command kept said = record kept { since = kept.since ++ said ∷ [] }

-- with the first so many of its commands
abbrev pub front : ℕ → Kept → Kept
front many kept = record kept { since = take many kept.since }

-- all its commands, told by what they left live
abbrev pub compacted : ℕ → List (List ℕ) → Kept
compacted changes live = record { changes = changes; live = live; since = [] }

-- a list of texts, as their bytes
abbrev pub says : List (Vec ℕ Global) → List (List ℕ)
says vs = map (λ v. v.items) vs

-- what is kept, of a list that says how many were live behind its first
abbrev pub kept_in : ℕ → ℕ → List (List ℕ) → Kept
kept_in changes live said = record { changes = changes; live = take live (drop 1 said); since = drop (1 + live) said }

-- bytes that are no journal's, not even with less than an entry at their end
abbrev pub IsNone : List ℕ → Type 0
IsNone bytes = (kept : Kept) (torn : List ℕ) → Reads bytes kept torn → ⊥

-- What was read once more ends with the digest of what is kept. That it is the same is trusted of the digest.
abbrev pub HasDigestOf : Kept → Kept → Type 0
HasDigestOf read kept = link_behind first_link 0 (said_by read) ≡ link_behind first_link 0 (said_by kept)

-- the lines are all that something keeps which ends with the digest of what is kept
abbrev pub AreReadAgain : Kept → List (List ℕ) → Type 0
AreReadAgain kept lines = (read : Kept) × (lines ≡ read.live ++ read.since) × HasDigestOf read kept
