use Rattle.std.proofs.Common.{ap, ◌∙◌}
use Rattle.std.proofs.lemmas.Result.{on_ok_weaker}
use Rattle.clip_extract.specs.Keys.{share}
use Rattle.clip_extract.specs.Extraction.{query_keys}
use Rattle.clip_extract.specs.Covering.{article_keys}
use Rattle.clip_model.specs.History.{Registered}
use Rattle.clip_pieces.specs.Marked.{marked}
use Rattle.clip_segment.proofs.Sharing.{marked_map}
use Rattle.clip_segment.proofs.reading.SegmentReading.sharers.Goals as goal

pub returns-clause-positions : goal.returns-clause-positions
returns-clause-positions c =
    let asked = c.args.self.now in
    on_ok_weaker c.numbers_into.result
    (λ read. read ∙ ap marked c.in_ok-marks.ensures.marks
    ∙ marked_map (λ (e : Registered). share (query_keys e.standing.tree) (article_keys asked.article.fields)) 0
    asked.entries)
    c.numbers_into.ensures

pub returns-clause-counted : goal.returns-clause-counted
returns-clause-counted c =
    on_ok_weaker c.numbers_into.result (λ _. c.in_ok-marks.ensures.counted) c.numbers_into.ensures
