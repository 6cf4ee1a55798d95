use Rattle.std.proofs.Common.{◌≡◌, true, IfOk, Some, slice_get, subst}
use Rattle.std.proofs.lemmas.Result.{IfOk-weaker}
use Rattle.clip_extract.specs.Covering.{article_keys}
use Rattle.clip_extract.specs.Extraction.{query_keys}
use Rattle.clip_extract.specs.Keys.{share}
use Rattle.clip_meaning.specs.Meaning.{holds}
use Rattle.clip_model.specs.History.{Registered}
use Rattle.clip_segment.specs.Segment.{AskedValue}
use Rattle.clip_segment.specs.Steps.ReadingView.{index_asked}
use Rattle.clip_segment.proofs.EntryPositions.{plan_of_entry}
use Rattle.clip_segment.proofs.reading.SegmentReading.holds.Goals as goal

pub returns-clause-held : goal.returns-clause-held
returns-clause-held c =
    let inside = c.self.inside in
    let at = c.args.position in
    subst (λ (asked : AskedValue). IfOk c.judge.result (λ held. (entry : Registered)
    → slice_get asked.entries at ≡ Some entry → (c.args.shares_key ≡ true
    → share (query_keys entry.standing.tree) (article_keys asked.article.fields) ≡ true)
    → held ≡ holds entry.standing.tree asked.article.fields))
    c.self.view_is
    (IfOk-weaker c.judge.result _ _
    (λ held judged entry there.
    judged entry.standing.tree
    (plan_of_entry inside.segment.now (index_asked inside) c.self.invariant.index at entry there)) c.judge.ensures.held)
