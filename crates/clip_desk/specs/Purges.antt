-- What a purge leaves.
use Rattle.std.specs.Prelude.{ℕ, ◌≤◌, length, take, All, IsTrue}
use Rattle.clip_model.specs.History.{History, Registered, listed, is_live}
use Rattle.clip_registry.specs.RegistryState.{RegistryState}

-- After the history the entry was not dead: it was live, or its seq was not given yet.
abbrev pub WasNotDead : History → Registered → Type 0
WasNotDead history entry = entry.seq ≤ listed history → IsTrue (is_live history entry.seq)

-- The segments have no entry that was dead when the history had this length.
abbrev pub IsPurgedAt : RegistryState → ℕ → Type 0
IsPurgedAt state n = (n ≤ length state.history) × All (All (WasNotDead (take n state.history))) state.segments
