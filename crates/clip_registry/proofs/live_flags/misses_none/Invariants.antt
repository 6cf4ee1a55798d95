use Rattle.std.proofs.Common.{◌≡◌, ℕ, Bool, true, List, take}
use Rattle.std.specs.List.{list_all}
use Rattle.clip_model.specs.History.{Registered}
use Rattle.clip_registry.specs.Steps.LiveFlags.{flags_by, stays}
use Rattle.clip_registry.proofs.live_flags.misses_none.Given as goal

abbrev pub invariant-loop-place : goal.invariant-loop-place
invariant-loop-place l = (is was : ℕ → Bool) (segments : List (List Registered))
    → l.now ≡ flags_by is segments → l.begun ≡ flags_by was segments
    → list_all (list_all (stays is was)) (take l.place segments) ≡ true
