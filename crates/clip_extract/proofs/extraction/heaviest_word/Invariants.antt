use Rattle.std.proofs.Common.{◌≡◌, ℕ, List, map, drop, fold, Some}
use Rattle.std.specs.Arc.{arc_str_bytes}
use Rattle.clip_extract.specs.Extraction.{heavier, heaviest, word_extract}
use Rattle.clip_extract.specs.Steps.Leaves.{word_found}
use Rattle.clip_extract.proofs.extraction.heaviest_word.Given as goal

abbrev pub invariant-loop-word : goal.invariant-loop-word
invariant-loop-word l =
    (field : List ℕ) → Some (fold heavier (word_found field (arc_str_bytes l.best) l.most)
    (map (word_extract field) (map arc_str_bytes (drop l.word-index l.others))))
    ≡ heaviest (map (word_extract field) (map arc_str_bytes l.words))
