-- The whole entries in front of bytes.
use Rattle.std.specs.Prelude.{◌≡◌, ℕ, ◌≤◌, List, ◌++◌, length, drop}
use Rattle.clip_journal.specs.Entries.{entries, link_behind, first_link, IsTorn, IsWrong, StartsNone}
use Rattle.clip_journal.specs.Kept.{IsNone}
use Rattle.clip_journal.specs.declared.fault.ReadFault.{ReadFault}
use Rattle.clip_journal.specs.declared.fault.ReadFault.TheVariants as fault

-- Whole entries say this, the last has this link, and from this byte on less than an entry stands.
pub record Parts (bytes : List ℕ) (said : List (List ℕ)) (last : List ℕ) (at : ℕ) : Type 0 where
  pub within : at ≤ length bytes
  pub parts : bytes ≡ entries first_link 0 said ++ drop at bytes
  pub link : last ≡ link_behind first_link 0 said
  pub torn : IsTorn last (length said) (drop at bytes)

-- Up to this byte whole entries stand, and behind them neither an entry nor less than one.
abbrev pub IsWrongFrom : List ℕ → ReadFault → Type 0
IsWrongFrom bytes fault.NoMemory = Unit {0}
IsWrongFrom bytes (fault.Broken place) = (said : List (List ℕ)) × (rest : List ℕ)
    × (bytes ≡ entries first_link 0 said ++ rest) × (place ≡ length (entries first_link 0 said))
    × IsWrong (link_behind first_link 0 said) (length said) rest

-- Up to this byte whole entries stand, and none behind them; and the bytes are no journal's.
abbrev pub IsBroken : List ℕ → ReadFault → Type 0
IsBroken bytes fault.NoMemory = Unit {0}
IsBroken bytes (fault.Broken place) = IsNone bytes × (said : List (List ℕ)) × (rest : List ℕ)
    × (bytes ≡ entries first_link 0 said ++ rest) × (place ≡ length (entries first_link 0 said))
    × StartsNone (link_behind first_link 0 said) (length said) rest
