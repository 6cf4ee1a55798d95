use Rattle.std.proofs.Common.{◌≡◌, ◌+◌, IfOk, Result, Ok, Err, map, ap, ◌∙◌, subst, arith}
use Rattle.std.specs.Prelude.{OnOk}
use Rattle.std.proofs.lemmas.Result.{on_ok_weaker}
use Rattle.clip_extract.specs.Keys.{share}
use Rattle.clip_extract.specs.Extraction.{query_keys}
use Rattle.clip_extract.specs.Covering.{article_keys}
use Rattle.clip_model.specs.History.{Registered}
use Rattle.clip_segment.specs.Index.{positions_under}
use Rattle.clip_segment.specs.Segment.{AskedValue, trees_of}
use Rattle.clip_segment.specs.Steps.ReadingView.{index_asked}
use Rattle.clip_segment.proofs.Answering.{plan_each, sharing}
use Rattle.clip_segment.proofs.Asked.{keys_asked}
use Rattle.clip_segment.proofs.Counting.{read_under}
use Rattle.clip_segment.proofs.EntryPositions.{tests_of_trees}
use Rattle.clip_segment.proofs.Sharing.{passing_flags}
use Rattle.clip_segment.proofs.reading.SegmentReading.sharer_marks.Goals as goal

both_ok : {T E : Type 0} (r : Result T E) (P Q R : T → Type 0) → ((x : T) → P x → Q x → R x) → IfOk r P → IfOk r Q
    → IfOk r R
both_ok (Ok x) P Q R f p q = f x p q
both_ok (Err e) P Q R f p q = p

pub returns-clause-marks : goal.returns-clause-marks
returns-clause-marks c =
    let inside = c.self.inside in
    let index = index_asked inside in
    let trees = trees_of inside.segment.now in
    let is = c.self.invariant.index in
    let fields = inside.reading.article.fields in
    let keys = article_keys fields in
    let numbers = c.numbers in
    both_ok c.marks_under.result _ _ _
    (λ marks long marked.
    passing_flags (λ tree. share (query_keys tree) keys) trees marks (long ∙ c.len.ensures ∙ plan_each trees index is)
    (λ n lt. marked n (omega (arith, lt, long))
    ∙ sharing query_keys keys_asked trees index.terms is.terms index.positions is.positions fields numbers.result.now
    numbers.ensures.within numbers.ensures.had n)
    ∙ tests_of_trees (λ tree. share (query_keys tree) keys) inside.segment.now
    ∙ ap (λ (asked : AskedValue).
    map (λ (e : Registered). share (query_keys e.standing.tree) (article_keys asked.article.fields)) asked.entries)
    c.self.view_is)
    c.marks_under.ensures.long c.marks_under.ensures.marked

pub returns-clause-counted : goal.returns-clause-counted
returns-clause-counted c =
    let inside = c.self.inside in
    let index = index_asked inside in
    let is = c.self.invariant.index in
    let numbers = c.numbers in
    let before = c.args.read.now in
    subst (λ (asked : AskedValue). OnOk c.marks_under.result (c.marks_under.new.read
    ≡ before + positions_under query_keys (article_keys asked.article.fields) (trees_of asked.entries))) c.self.view_is
    (on_ok_weaker c.marks_under.result
    (λ counted. counted ∙ ap (λ n. before + n)
    (read_under query_keys keys_asked (trees_of inside.segment.now) index.terms is.terms index.positions is.positions
    inside.reading.article.fields numbers.result.now numbers.ensures.once numbers.ensures.within numbers.ensures.had))
    c.marks_under.ensures.counted)
