use Rattle.std.specs.List.{All}
use Rattle.clip_meaning.specs.Steps.Occurrences.{IsOccurrence}
use Rattle.clip_meaning.proofs.index.occurrences_in_text.Given as goal

abbrev pub invariant-loop-position : goal.invariant-loop-position
invariant-loop-position l = record {
  each : All (IsOccurrence l.words) l.found.items;
}
