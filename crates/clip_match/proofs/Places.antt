-- The hits of one query among those of many.
use Rattle.std.proofs.Common.{◌≡◌, ◌++◌, ◌≤◌, ◌-◌, List, All, Option, Some, None, IfSome, length, take, drop, ap, ◌∙◌}
use Rattle.std.proofs.Common.{arith}
use Rattle.std.proofs.lemmas.List.{drop-append-le, take-append-le, take_all, length-append, length-drop}
use Rattle.std.proofs.Math.Seq.{drop-append_seam}
use Rattle.clip_meaning.specs.Article.{ArticleValue}
use Rattle.clip_meaning.specs.Hits.{HitValue}
use Rattle.clip_match.specs.declared.held.Held.{Held}
use Rattle.clip_match.specs.declared.held.HitPlaces.{HitPlaces}
use Rattle.clip_match.specs.declared.held.HitsFound.{HitsFound}
use Rattle.clip_match.specs.Due.{StandAt}
use Rattle.clip_match.specs.Steps.Held.{HasItsHits}

-- they stand where they stood when others are added
stand_still : (all more found : List HitValue) (places : HitPlaces) → StandAt all found places
    → StandAt (all ++ more) found places
stand_still all more found places at =
    let s = places.start in
    let count = places.end - s in
    let begins : s ≤ length all = let low = at.low in let high = at.high in omega (arith, low, high) in
    let rest : count ≤ length (drop s all) = let low = at.low in let high = at.high in
    omega (arith, low, high, length-drop s all) in
    record {
      low = at.low;
      high = let high = at.high in omega (arith, high, length-append all more);
      are = ap (take count) (drop-append-le s all more begins) ∙ take-append-le count (drop s all) more rest ∙ at.are;
    }

some_still : (all more found : List HitValue) (places : Option HitPlaces) → IfSome places (StandAt all found)
    → IfSome places (StandAt (all ++ more) found)
some_still all more found None at = at
some_still all more found (Some places) at = stand_still all more found places at

pub each_still : (wanted : HitsFound) (article : ArticleValue) (all more : List HitValue) (held : List Held)
    → All (HasItsHits wanted article all) held → All (HasItsHits wanted article (all ++ more)) held
each_still wanted article all more held each k d lt =
    let one = each k d lt in
    record { right = some_still all more _ _ one.right; there = one.there }

-- those that were added last
pub stand_last : (all found : List HitValue) (places : HitPlaces) → places.start ≡ length all
    → places.end ≡ length (all ++ found) → StandAt (all ++ found) found places
stand_last all found places start end =
    let count = places.end - places.start in
    let whole : length found ≤ count = omega (arith, start, end, length-append all found) in
    record {
      low = omega (arith, start, end, length-append all found);
      high = omega (arith, end);
      are = ap (λ s. take count (drop s (all ++ found))) start ∙ ap (take count) (drop-append_seam all found)
          ∙ take_all count found whole;
    }
