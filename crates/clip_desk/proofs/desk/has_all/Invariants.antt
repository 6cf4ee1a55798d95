use Rattle.std.proofs.Common.{◌≡◌, ◌<◌, ◌≤◌, ℕ, Some, slice_get}
use Rattle.clip_desk.specs.Seats.{SeatIs}
use Rattle.clip_desk.proofs.desk.has_all.Given as goal

abbrev pub invariant-loop-number : goal.invariant-loop-number
invariant-loop-number g l = (caller : ℕ) → 0 < caller → caller ≤ l.number
    → (k : ℕ) × (s : SeatIs) × (slice_get l.seats k ≡ Some s) × (s.caller ≡ caller)
