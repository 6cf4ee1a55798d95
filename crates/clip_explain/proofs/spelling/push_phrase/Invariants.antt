use Rattle.std.proofs.Common.{◌≡◌, ◌++◌, map, drop, string_bytes, true}
use Rattle.std.specs.Arc.{arc_str_bytes}
use Rattle.clip_explain.specs.Spelling.{words_spelling}
use Rattle.clip_explain.proofs.spelling.push_phrase.Given as goal

abbrev pub invariant-loop-word : goal.invariant-loop-word
invariant-loop-word l =
    string_bytes l.spelled ++ words_spelling l.first (map arc_str_bytes (drop l.word-index l.words))
    ≡ string_bytes l.initial.spelled ++ words_spelling true (map arc_str_bytes l.words)
