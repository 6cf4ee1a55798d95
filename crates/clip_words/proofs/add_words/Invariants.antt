use Rattle.std.proofs.Common.{◌≡◌, map, ◌++◌, string_bytes}
use Rattle.clip_words.specs.Steps.TextsView.{texts_in, AreSpans, BeginsWith}
use Rattle.clip_words.specs.Words.{fold_of}
use Rattle.unicode_segmentation.specs.Iter.{unicode_words_left}
use Rattle.unicode_segmentation.specs.Word.{words}
use Rattle.clip_words.proofs.add_words.Given as goal

-- the texts so far and the words to come are the texts before and the words of the text
abbrev pub invariant-loop-word : goal.invariant-loop-word
invariant-loop-word l =
    (goal.iterator-loop-word).can_next l.word-iterator × (goal.iterator-loop-word).is_finite l.word-iterator
    × (texts_in l.spans ++ map fold_of (unicode_words_left l.word-iterator)
    ≡ texts_in l.initial.spans ++ map fold_of (words l.text))
    × AreSpans l.spans
    × BeginsWith (string_bytes l.initial.spans.all) (string_bytes l.spans.all)
