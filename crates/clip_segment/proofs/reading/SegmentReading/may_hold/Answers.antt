use Rattle.std.proofs.Common.{◌≡◌, false, Some, slice_get, subst}
use Rattle.clip_meaning.specs.Meaning.{holds}
use Rattle.clip_model.specs.History.{Registered}
use Rattle.clip_segment.specs.Segment.{AskedValue}
use Rattle.clip_segment.specs.Steps.ReadingView.{index_asked}
use Rattle.clip_segment.proofs.EntryPositions.{plan_of_entry}
use Rattle.clip_segment.proofs.reading.SegmentReading.may_hold.Goals as goal

pub returns : goal.returns
returns c =
    let inside = c.self.inside in
    let at = c.args.position in
    subst (λ (asked : AskedValue). (entry : Registered) → slice_get asked.entries at ≡ Some entry
    → c.may_hold.result ≡ false → holds entry.standing.tree asked.article.fields ≡ false) c.self.view_is
    (λ entry there fails. c.may_hold.ensures entry.standing.tree
    (plan_of_entry inside.segment.now (index_asked inside) c.self.invariant.index at entry there) fails)
