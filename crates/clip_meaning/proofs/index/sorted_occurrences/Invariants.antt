use Rattle.std.proofs.Common.{◌≡◌, map, take}
use Rattle.std.specs.List.{All}
use Rattle.clip_meaning.specs.Steps.Occurrences.{posting_at, HasLeadOf}
use Rattle.clip_meaning.proofs.index.sorted_occurrences.Given as goal

abbrev pub invariant-loop-posting : goal.invariant-loop-posting
invariant-loop-posting l = record {
  told : map (posting_at l.words) l.found.items ≡ take l.posting-index l.posting-items;
  leads : All (HasLeadOf l.words) l.found.items;
}
