use Rattle.std.proofs.Common.{◌≡◌, map, take}
use Rattle.clip_match.proofs.entries.DueEntries.queries.Given as goal

abbrev pub invariant-loop-one : goal.invariant-loop-one
invariant-loop-one l = map (λ id. id.now) l.ids.items
    ≡ map (λ h. h.registered.now.standing.id) (take l.one-index l.held)
