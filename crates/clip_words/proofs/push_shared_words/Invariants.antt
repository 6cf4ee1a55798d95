use Rattle.std.proofs.Common.{◌≡◌, map, ◌++◌}
use Rattle.std.specs.Arc.{arc_str_bytes}
use Rattle.clip_words.specs.Words.{fold_of}
use Rattle.unicode_segmentation.specs.Iter.{unicode_words_left}
use Rattle.unicode_segmentation.specs.Word.{words}
use Rattle.clip_words.proofs.push_shared_words.Given as goal

-- the words so far and those to come are those before and the words of the text
abbrev pub invariant-loop-word : goal.invariant-loop-word
invariant-loop-word l =
    (goal.iterator-loop-word).can_next l.word-iterator × (goal.iterator-loop-word).is_finite l.word-iterator
    × (map arc_str_bytes l.shared.items ++ map fold_of (unicode_words_left l.word-iterator)
    ≡ map arc_str_bytes l.initial.shared.items ++ map fold_of (words l.text))
