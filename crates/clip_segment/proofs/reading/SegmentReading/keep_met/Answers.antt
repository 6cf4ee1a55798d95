use Rattle.std.proofs.Common.{◌≡◌, ℕ, true, false, ◌&&◌, Some, slice_get, get_or, sym, ap, ◌∙◌, subst}
use Rattle.std.proofs.Math.Bool.{and-true}
use Rattle.std.proofs.lemmas.Bool.{and_parts}
use Rattle.clip_meaning.specs.Meaning.{holds}
use Rattle.clip_model.specs.History.{Registered}
use Rattle.clip_segment.specs.Segment.{AskedValue}
use Rattle.clip_segment.proofs.Seconds.{met_where_holds}
use Rattle.clip_segment.proofs.reading.SegmentReading.keep_met.Goals as goal

pub returns-clause-fewer : goal.returns-clause-fewer
returns-clause-fewer c = λ position set. (and_parts _ _ (sym (c.keep_met.ensures.each position) ∙ set)).0

pub returns-clause-none_lost : goal.returns-clause-none_lost
returns-clause-none_lost c =
    let inside = c.self.inside in
    let old = c.args.marks.now in
    subst (λ (asked : AskedValue). (position : ℕ) (entry : Registered) → slice_get asked.entries position ≡ Some entry
    → holds entry.standing.tree asked.article.fields ≡ true
    → get_or c.keep_met.new.self position false ≡ get_or old position false) c.self.view_is
    (λ position entry there held.
    c.keep_met.ensures.each position
    ∙ ap (λ b. get_or old position false && b)
    (met_where_holds c.second_covering_law.ensures inside.segment.now position entry inside.reading.article.fields
    inside.needs.now inside.seconds there
    c.self.invariant.index.needs (c.self.invariant.seconds position) held)
    ∙ and-true (get_or old position false))
