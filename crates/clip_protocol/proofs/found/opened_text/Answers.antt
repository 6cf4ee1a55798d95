use Rattle.std.proofs.Common.{[], ◌∷◌, ◌++◌, codes, ap, ap₂, ◌∙◌}
use Rattle.json.specs.Token.{begin_array, key}
use Rattle.json.specs.Print.{escape_byte, print, print_from}
use Rattle.clip_protocol.proofs.found.opened_text.Goals as goal

pub returns : goal.returns
unfolding print_from escape_byte
returns c =
    let before = c.in_ok-begin_array.ensures.room.0 ∙ c.in_ok-key.ensures.room.0 ∙ c.in_ok-out.ensures.before in
    let named = c.in_ok-key.ensures.ok ∙ ap (λ ts. ts ++ key (codes "alerts") ∷ []) c.in_ok-out.ensures.tokens in
    let tokens = c.in_ok-begin_array.ensures.ok ∙ ap (λ ts. ts ++ begin_array ∷ []) named in
    c.into_inner.ensures.items ∙ ap₂ (λ b ts. b ++ print ts) before tokens
