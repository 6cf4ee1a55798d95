use Rattle.std.proofs.Common.{◌≡◌, None, IfErr, IfOk, OnOk, subst}
use Rattle.std.specs.List.{All}
use Rattle.std.specs.Str.{IsUtf8}
use Rattle.clip_meaning.specs.Article.{fault_of}
use Rattle.clip_engine.specs.Calls.{IsNoArticle}
use Rattle.clip_engine.specs.Texts.{IsField, IsFoundAt, fields_of}
use Rattle.clip_engine.proofs.kept.Kept.match_article.Goals as goal

pub returns : goal.returns
returns c =
    let id = c.args.id.now in let fields = fields_of c.args.fields.now in (
      λ zero.
          let made = c.keep.ensures.kept zero in
          let may_be = subst (λ r. OnOk r (IsUtf8 id × All IsField fields × (fault_of id fields ≡ None))) made
          c.found-found.ensures.is in
          let is_found = subst (λ r. IfOk r (λ bytes. IsFoundAt c.args.self.now.engine id fields bytes.items)) made
          c.found-found.ensures.ok in
          (may_be.0, may_be.1, may_be.2, is_found),
      λ some. subst (λ r. IfErr r (IsNoArticle id fields)) (c.keep.ensures.refused some) c.found-found.ensures.why,
      c.keep.ensures.engine,
    )
