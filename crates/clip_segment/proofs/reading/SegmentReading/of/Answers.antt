use Rattle.std.proofs.Common.{◌≡◌, ◌+◌, ap, sym, ◌∙◌, subst, arith}
use Rattle.clip_extract.specs.Covering.{article_keys}
use Rattle.clip_extract.specs.Extraction.{second_keys}
use Rattle.clip_segment.specs.Index.{IsIndexOf, positions_under}
use Rattle.clip_segment.specs.Segment.{trees_of}
use Rattle.clip_segment.specs.Steps.IndexView.{index_of}
use Rattle.clip_segment.proofs.Answering.{sharing}
use Rattle.clip_segment.proofs.Asked.{seconds_asked}
use Rattle.clip_segment.proofs.Counting.{read_under}
use Rattle.clip_segment.proofs.Seconds.{index_read, index_seconds}
use Rattle.clip_segment.proofs.reading.SegmentReading.of.Goals as goal

pub invariant_of-result : goal.invariant_of-result
invariant_of-result c =
    let trees = trees_of c.args.segment.now in
    let index = index_of c.queries.inside in
    let is : IsIndexOf trees index = subst (IsIndexOf trees) (sym c.queries.view_is) c.index.ensures.queries in
    let reading = c.in_ok-reading.reading in
    let same : index.terms ≡ reading.terms = sym (ap (λ r. r.terms) c.in_ok-reading.ensures) in
    record {
      index = index_read trees index reading.terms is same;
      seconds = λ position lt.
          c.in_ok-seconds.ensures.marked position (omega (arith, lt, c.len.ensures))
          ∙ sharing second_keys seconds_asked trees reading.terms (sym same ∙ is.terms) index.seconds
          (index_seconds trees index reading.terms is same)
          reading.article.fields c.numbers.result.now c.numbers.ensures.within c.numbers.ensures.had position;
    }

pub returns-clause-counted : goal.returns-clause-counted
returns-clause-counted c =
    let trees = trees_of c.args.segment.now in
    let index = index_of c.queries.inside in
    let is : IsIndexOf trees index = subst (IsIndexOf trees) (sym c.queries.view_is) c.index.ensures.queries in
    let reading = c.in_ok-reading.reading in
    let same : index.terms ≡ reading.terms = sym (ap (λ r. r.terms) c.in_ok-reading.ensures) in
    let numbers = c.numbers in
    let before = c.args.read.now in
    c.in_ok-seconds.ensures.counted
    ∙ ap (λ n. before + n)
    (read_under second_keys seconds_asked trees reading.terms (sym same ∙ is.terms) index.seconds
    (index_seconds trees index reading.terms is same) reading.article.fields numbers.result.now numbers.ensures.once
    numbers.ensures.within numbers.ensures.had)
    ∙ ap (λ r. before + positions_under second_keys (article_keys r.article.fields) trees) c.in_ok-reading.ensures
