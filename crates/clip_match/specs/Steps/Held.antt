-- Entries whose queries hold of an article, with their hits where these were found at once.
use Rattle.std.specs.Prelude.{◌≡◌, true, List, is_some}
use Rattle.clip_meaning.specs.Article.{ArticleValue}
use Rattle.clip_meaning.specs.Hits.{HitValue}
use Rattle.clip_match.specs.Due.{AreItsHits}
use Rattle.clip_match.specs.declared.held.Held.{Held}
use Rattle.clip_match.specs.declared.held.HitsFound.{HitsFound}
use Rattle.clip_match.specs.declared.held.HitsFound.TheVariants.{AtOnce}

-- the hits that were found are those of the query, and where they are found at once they are there
pub record HasItsHits (wanted : HitsFound) (article : ArticleValue) (all : List HitValue) (held : Held) : Type 0 where
  pub right : AreItsHits article all held
  pub there : wanted ≡ AtOnce → is_some held.hits ≡ true
