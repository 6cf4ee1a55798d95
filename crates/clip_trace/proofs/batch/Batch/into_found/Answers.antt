use Rattle.std.proofs.Common.{sym, ap, ◌∙◌, map, take}
use Rattle.std.proofs.lemmas.Simd.{map-map}
use Rattle.clip_match.specs.Alerts.{alerts_due}
use Rattle.clip_standing.specs.Alerts.{alerts_value}
use Rattle.clip_trace.specs.Event.{found_of, found_after}
use Rattle.clip_trace.specs.Schedule.{Batch}
use Rattle.clip_trace.proofs.batch.Batch.into_found.Goals as goal

pub returns : goal.returns
returns c =
    sym (map-map found_of alerts_value c.self.inside.found.items) ∙ ap (map found_of) c.self.invariant
    ∙ map-map found_of (alerts_due c.self.inside.view) _
    ∙ ap (λ (b : Batch). map (found_after b.history) (take b.matched b.articles)) c.self.view_is
