use Rattle.std.proofs.Common.{rules}
use Rattle.clip_meaning.proofs.article.Article.field.Goals as goal

pub returns-in-Some : goal.returns-in-Some
returns-in-Some c = search rules
