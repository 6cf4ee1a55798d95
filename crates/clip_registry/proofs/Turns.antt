-- Merge turns end, since each leaves fewer segments.
use Rattle.std.proofs.Common.{◌≡◌, ℕ, suc, ◌+◌, ◌<◌, ◌≤◌, List, [], ◌∷◌, ◌++◌, take, drop, length, length-append}
use Rattle.std.proofs.Common.{length-take, length-drop, ap, arith, Bool}
use Rattle.clip_model.specs.History.{Registered}
use Rattle.clip_merge.specs.Plan.{IsTurn}
use Rattle.clip_merge.specs.Plan.IsTurn.{all, rise, run}
use Rattle.clip_registry.specs.Merging.{merge_of, shelf}
use Rattle.clip_registry.specs.RegistryState.{RegistryState}
use Rattle.clip_registry.specs.Steps.Turns.{HasMerged, TakesTurns}
use Rattle.clip_registry.proofs.Kept.{neighbours_there}

-- a turn merges two segments at least, which are there
pub turn_there : (to_one : Bool) (segments : List (List Registered)) (first past : ℕ)
    → IsTurn to_one segments first past → (first + 2 ≤ past) × (past ≤ length segments)
turn_there to_one segments first past (run oldest ends) = let there = oldest.run.there in (omega arith, omega arith)
turn_there to_one segments first past (rise none oldest ends) = let after = oldest.rise.after in let there =
    oldest.rise.there in (omega arith, omega arith)
turn_there to_one segments first past (all asked several begins ends) = (omega arith, omega arith)

shelf_short : (es : List Registered) → length (shelf es) ≤ 1
shelf_short [] = omega arith
shelf_short (e ∷ es) = omega arith

-- after a turn fewer segments stand
pub fewer : (to_one : Bool) (old new : RegistryState) → HasMerged to_one old new
    → length new.segments < length old.segments
fewer to_one old new merged =
    let job = merged.job in
    let is = merged.installed in
    let ends = merged.begun.over.ends in
    let there = turn_there to_one old.segments merged.begun.first merged.begun.past merged.begun.turn in
    let within : is.first + length job.sources ≤ length old.segments =
    neighbours_there old.segments job.sources is.first (omega arith) is.stood in
    let es = (merge_of job).entries in
    let before = take is.first old.segments in
    let after = drop (is.first + length job.sources) old.segments in
    let same : length new.segments ≡ length ((before ++ shelf es) ++ after) = ap length is.segments in
    omega (
      arith,
      length-append (before ++ shelf es) after,
      length-append before (shelf es),
      shelf_short es,
      length-take is.first old.segments,
      length-drop (is.first + length job.sources) old.segments,
    )

-- one turn more
pub turn_more : (to_one : Bool) (old between new : RegistryState) → TakesTurns to_one old between
    → HasMerged to_one between new → TakesTurns to_one old new
turn_more to_one old between new turns merged = (suc turns.0, (between, turns.1, merged))
