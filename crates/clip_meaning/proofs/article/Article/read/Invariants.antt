use Rattle.std.proofs.Common.{◌≡◌, take}
use Rattle.clip_meaning.specs.Article.{read_fields, pairs_of}
use Rattle.clip_meaning.proofs.article.Article.read.Given as goal

abbrev pub invariant-loop-name : goal.invariant-loop-name
invariant-loop-name l = l.kept ≡ read_fields (pairs_of (take l.name-index l.fields))
