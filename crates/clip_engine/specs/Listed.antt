-- Queries that are registered together, by their texts.
use Rattle.std.specs.Prelude.{◌≡◌, ◌⊎◌, ℕ, List, Some, slice_get}
use Rattle.clip_protocol.specs.declared.listing.ListFault.{ListFault}
use Rattle.clip_protocol.specs.declared.listing.ListFault.TheVariants as fault
use Rattle.clip_protocol.specs.declared.refusal.Unread.TheVariants as unread
use Rattle.clip_engine.specs.Code.{number_of}
use Rattle.clip_engine.specs.declared.code.TheConstants.{NO_MEMORY, UTF8}
use Rattle.clip_engine.specs.Texts.{IsReadable}
use Rattle.clip_engine.specs.declared.listed.Listed.{Listed}

-- The texts of the query at this place are none, or there was no memory for them.
abbrev pub IsUnread : List Listed → ℕ → ℕ → Type 0
IsUnread listed code which = ((code ≡ UTF8) × (q : Listed) × (slice_get listed which ≡ Some q)
    × (IsReadable q → ⊥)) ⊎ (code ≡ NO_MEMORY)

-- the number and the place of a refusal
abbrev pub IsWhich : ListFault → ℕ → ℕ → Type 0
IsWhich (fault.Refused r k) code which = (code ≡ number_of (unread.Refused r)) × (which ≡ k)
IsWhich fault.NoMemory code which = code ≡ NO_MEMORY
