use Rattle.std.proofs.Common.{◌≡◌, drop, map}
use Rattle.clip_protocol.specs.Steps.Views.{listing_view}
use Rattle.clip_cause.specs.Names.{queries}
use Rattle.clip_cause.specs.Limits.{each_fault, id_in}
use Rattle.clip_cause.proofs.limits.queries_fault.Given as goal

abbrev pub invariant-loop-place : goal.invariant-loop-place
invariant-loop-place l = each_fault queries (λ q. id_in q.id) l.place (map listing_view (drop l.place l.listings))
    ≡ each_fault queries (λ q. id_in q.id) 0 (map listing_view l.listings)
