use Rattle.std.proofs.Common.{◌≡◌}
use Rattle.std.specs.List.{list_any}
use Rattle.unicode_segmentation.specs.Iter.{word_bounds_left}
use Rattle.clip_remarks.specs.Texts.{is_part, has_piece}
use Rattle.clip_remarks.proofs.pieces.has_piece.Given as goal

abbrev pub invariant-loop-piece : goal.invariant-loop-piece
invariant-loop-piece l = list_any (is_part l.part) (word_bounds_left l.piece-iterator) ≡ has_piece l.part l.text
