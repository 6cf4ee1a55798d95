-- An article that is ready to be asked.
use Rattle.std.specs.Prelude.{◌≡◌}
use Rattle.std.specs.FinMap as finite
use Rattle.clip_terms.specs.declared.asking.Asking.TheInside.{Inside}

-- The fields are the article's.
pub record IsAsking (asking : Inside) : Type 0 where
  pub fields : asking.fields.items ≡ finite.entries asking.article.now.fields
