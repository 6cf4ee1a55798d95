use denote.Shadow.{shadow}
use denote.Text.{Utf8}
use Rattle.std.proofs.Common.{◌≡◌, map, length, ◌++◌, string_bytes}
use Rattle.std.specs.Char.{to_ascii_lowercase}
use Rattle.unicode_segmentation.specs.Word.{words}
use Rattle.clip_words.specs.Steps.Fronts.{IsRest}
use Rattle.clip_words.specs.Steps.TextsView.{texts_in, AreSpans, BeginsWith}
use Rattle.clip_words.specs.Words.{fold_of, words_of}
use Rattle.clip_words.proofs.packed_words.Given as goal

-- the words so far and those of the rest are the words of the text, which lies in lower case before the others
abbrev pub invariant-loop-rest : goal.invariant-loop-rest
invariant-loop-rest l =
    (texts_in l.spans ++ map fold_of (words l.rest) ≡ words_of l.text) × shadow (Utf8 l.rest) × AreSpans l.spans
    × BeginsWith (map to_ascii_lowercase l.text) (string_bytes l.spans.all) × IsRest l.text l.rest

abbrev pub decreases-loop-rest : goal.decreases-loop-rest
decreases-loop-rest l = length l.rest
