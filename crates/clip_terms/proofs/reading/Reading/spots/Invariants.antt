use Rattle.std.proofs.Common.{◌≡◌, ◌≤◌, length, map, take}
use Rattle.std.specs.FinMap as finite
use Rattle.clip_terms.specs.Spots.{spots_among}
use Rattle.clip_terms.proofs.reading.Reading.spots.Given as goal

abbrev pub invariant-loop-place : goal.invariant-loop-place
invariant-loop-place l = record {
  within : l.place ≤ l.count;
  count : l.count ≡ length (finite.entries l.self.article.fields);
  made : l.spots.items ≡ map (spots_among l.self.terms) (take l.place (finite.entries l.self.article.fields));
}
