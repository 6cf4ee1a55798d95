use Rattle.std.proofs.Common.{◌≡◌, map, take}
use Rattle.std.specs.Arc.{arc_str_bytes}
use Rattle.clip_plan.proofs.copy.copied_words.Given as goal

abbrev pub invariant-loop-word : goal.invariant-loop-word
invariant-loop-word l = map arc_str_bytes l.copy.items ≡ map arc_str_bytes (take l.word-index l.words)
