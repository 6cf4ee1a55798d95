-- The token that is a colon.
use Rattle.std.proofs.Common.{◌≡◌, ◌≢◌, false, refl}
use Rattle.clip_grammar.specs.Steps.LeftOut.{is_colon}
use Rattle.clip_syntax.specs.Steps.TokenOf.{token_of}
use Rattle.clip_syntax.specs.declared.token.Token as code
use Rattle.clip_syntax.specs.declared.token.Token.TheVariants as variant

pub no_colon : (t : code.Token) → t ≢ variant.Colon → false ≡ is_colon (token_of t)
no_colon variant.Colon h = absurd (h refl)
no_colon _ h = refl
