-- How many queries a match tries.
use Rattle.std.specs.Prelude.{◌≡◌, ℕ, length}
use Rattle.clip_meaning.specs.Article.{ArticleValue}
use Rattle.clip_model.specs.History.{History}
use Rattle.clip_registry.specs.RegistryState.{RegistryState, IsWhole}
use Rattle.clip_match.specs.Candidates.{candidates_of}

-- So many registered queries have a key in common with the article: those are counted in a registry with this history,
-- whose live entries are just the registered queries.
pub record IsAsked (history : History) (article : ArticleValue) (asked : ℕ) : Type 0 where
  pub state : RegistryState
  pub at : state.history ≡ history
  pub whole : IsWhole state
  pub count : asked ≡ length (candidates_of state article)
