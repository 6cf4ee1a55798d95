-- What a reply to a match shows of an article.
use Rattle.std.specs.Prelude.{ℕ, List, map}
use Rattle.clip_protocol.specs.Reply.{article_data}
use Rattle.clip_protocol.specs.Steps.Flowing.{item_text}
use Rattle.clip_protocol.specs.declared.put.ArticlePart.{ArticlePart}

-- its text, after a comma where it stands behind another article
abbrev pub part_text : ArticlePart → List ℕ
part_text part = item_text part.later
    (article_data part.form part.article.now (map (λ id. id.now) part.queries.now) part.alerts.now)
