use Rattle.std.proofs.Common.{◌≡◌, map, ◌++◌}
use Rattle.std.specs.List.{All}
use Rattle.unicode_segmentation.specs.Iter.{unicode_word_indices_left}
use Rattle.unicode_segmentation.proofs.SegmentsLemmas.{IsPieceOf}
use Rattle.clip_where.specs.Spans.{span_at, spans_of}
use Rattle.clip_where.proofs.word_spans.Given as goal

abbrev pub invariant-loop-start : goal.invariant-loop-start
invariant-loop-start l = record {
  pieces : All (IsPieceOf l.text) (unicode_word_indices_left l.start-iterator);
  spans : l.spans.items ++ map span_at (unicode_word_indices_left l.start-iterator) ≡ spans_of l.text;
}
