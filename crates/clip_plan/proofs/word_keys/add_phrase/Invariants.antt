-- The words so far, with those to come.
use Rattle.std.proofs.Common.{◌≡◌, ◌++◌, map, drop}
use Rattle.std.specs.Arc.{arc_str_bytes}
use Rattle.clip_extract.specs.Keys.{key_of}
use Rattle.clip_plan.proofs.Words.{phrase_words}
use Rattle.clip_plan.proofs.word_keys.add_phrase.Given as goal

abbrev pub invariant-loop-word : goal.invariant-loop-word
invariant-loop-word l = map key_of l.keys.items ++ phrase_words (arc_str_bytes l.field) (drop l.word-index l.words)
    ≡ map key_of l.fn.keys.items ++ phrase_words (arc_str_bytes l.field) l.words
