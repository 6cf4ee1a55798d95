use Rattle.std.proofs.Common.{◌≡◌, true, take}
use Rattle.std.specs.List.{list_all}
use Rattle.clip_words.specs.Steps.Fronts.{is_separator}
use Rattle.clip_words.proofs.fronts.separators.Given as goal

abbrev pub invariant-loop-at : goal.invariant-loop-at
invariant-loop-at l = list_all is_separator (take l.at l.bytes) ≡ true
