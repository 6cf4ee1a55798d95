-- Who may have given the commands of a history.
use Rattle.std.specs.Prelude.{◌≡◌, ℕ, ◌<◌, ◌≤◌, Some, slice_get}
use Rattle.clip_model.specs.History.{History, HistoryEntry}

-- the callers are 1 to n
abbrev pub IsBy : ℕ → History → Type 0
IsBy n history = (k : ℕ) (e : HistoryEntry) → slice_get history k ≡ Some e → (0 < e.caller) × (e.caller ≤ n)
