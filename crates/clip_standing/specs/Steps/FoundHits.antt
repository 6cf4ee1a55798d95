-- What is known of hits that were found when an alert was made.
use Rattle.std.specs.Prelude.{◌≡◌, ℕ, ◌≤◌, ◌-◌, List, map, length, take, drop, Option, Some, None, IfSome}
use Rattle.std.specs.Coded.{Coded-set, coded×, coded_list, coded_ℕ}
use mathlib.Core.Path.{refl}
use Rattle.clip_meaning.specs.Article.{ArticleValue}
use Rattle.clip_meaning.specs.Hits.{hit_value, hits}
use Rattle.clip_model.specs.Standing.{Standing}
use Rattle.clip_standing.specs.declared.found.FoundHits.TheInside.{Inside}

-- the hits of an alert, cut from those of all alerts of its article
abbrev pub found_value : Inside → List (List ℕ × ℕ)
found_value found = map hit_value (take (found.end - found.start) (drop found.start found.all.value.items))

-- the hits of an alert lie within those of all alerts of its article
pub record AreWithin (found : Inside) : Type 0 where
  pub low : found.start ≤ found.end
  pub high : found.end ≤ length found.all.value.items

-- the hits that were found, if they were, are those of the standing query in the article
abbrev pub AreFound : Standing → ArticleValue → Option (List (List ℕ × ℕ)) → Type 0
AreFound standing article found = IfSome found (λ list. list ≡ hits standing.tree article.fields)

-- any two proofs of `AreFound` are one
pub one_way_found : (standing : Standing) (article : ArticleValue) (found : Option (List (List ℕ × ℕ)))
    → IsProp (AreFound standing article found)
one_way_found standing article None x y = refl
one_way_found standing article (Some list) x y = Coded-set (coded_list (coded× (coded_list coded_ℕ) coded_ℕ)) _ _ x y
