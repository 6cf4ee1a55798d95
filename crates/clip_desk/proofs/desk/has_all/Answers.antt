use Rattle.std.proofs.Common.{◌≡◌, ℕ, Some, slice_get, refl}
use Rattle.clip_desk.specs.Seats.{SeatIs}
use Rattle.clip_desk.proofs.Seating.{one_more}
use Rattle.clip_desk.proofs.desk.has_all.Goals as goal

pub loop-number-preserved : goal.loop-number-preserved
loop-number-preserved g c =
    one_more (λ (caller : ℕ). (k : ℕ) × (s : SeatIs) × (slice_get c.args.seats.now k ≡ Some s)
    × (s.caller ≡ caller)) c.loop-number.number c.loop-number.invariant (c.if-not-has_one.ensures refl)
