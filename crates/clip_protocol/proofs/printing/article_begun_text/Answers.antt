use Rattle.std.proofs.Common.{◌++◌, ◌∷◌, [], ap, ap₂, ◌∙◌, append-nil, codes}
use Rattle.json.specs.Token.{begin_object, key, string}
use Rattle.json.specs.Print.{escape_byte, print, print_from, quoted}
use Rattle.clip_protocol.proofs.printing.article_begun_text.Goals as goal

pub returns : goal.returns
unfolding print_from escape_byte
returns c =
    let before = c.in_ok-string.ensures.room.0 ∙ c.in_ok-key.ensures.room.0 ∙ c.in_ok-begin_object.ensures.room.0
    ∙ c.new-out.ensures.before in
    let begun = c.in_ok-begin_object.ensures.ok ∙ ap (λ ts. ts ++ begin_object ∷ []) c.new-out.ensures.tokens in
    let named = c.in_ok-key.ensures.ok ∙ ap (λ ts. ts ++ key (codes "article") ∷ []) begun in
    let tokens = c.in_ok-string.ensures.ok ∙ ap (λ ts. ts ++ string c.args.article.now ∷ []) named in
    c.into_inner.ensures.items ∙ ap₂ (λ b ts. b ++ print ts) before tokens
    ∙ ap (λ t. c.args.text.items ++ 123 ∷ (quoted (codes "article") ++ 58 ∷ t)) (append-nil (quoted c.args.article.now))
