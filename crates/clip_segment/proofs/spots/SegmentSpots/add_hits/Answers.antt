use Rattle.std.proofs.Common.{◌≡◌, ◌++◌, ◌∙◌, OnOk, Some, map, slice_get, subst}
use Rattle.std.proofs.lemmas.Result.{IfOk-weaker}
use Rattle.clip_meaning.specs.Hits.{hit_value, hits}
use Rattle.clip_model.specs.History.{Registered}
use Rattle.clip_segment.specs.Segment.{AskedValue}
use Rattle.clip_segment.proofs.EntryPositions.{decoded_of_entry}
use Rattle.clip_segment.proofs.spots.SegmentSpots.add_hits.Goals as goal

pub returns : goal.returns
returns c =
    let inside = c.self.inside in
    let at = c.args.position in
    let reading = inside.reading.now in
    let before = map hit_value c.args.found.now.items in
    subst (λ (asked : AskedValue). OnOk c.add_hits.result ((entry : Registered)
    → slice_get asked.entries at ≡ Some entry → map hit_value c.add_hits.new.found.items
    ≡ before ++ hits entry.standing.tree asked.article.fields)) c.self.view_is
    (IfOk-weaker c.add_hits.result _ _
    (λ _ made entry there. made entry.standing.tree reading.terms reading.article.fields (c.deref.ensures.value
    ∙ c.self.invariant.fields)
    (decoded_of_entry inside.segment.now reading.terms inside.plans.now c.self.invariant.plans at entry there))
    c.add_hits.ensures)
