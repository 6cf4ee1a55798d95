-- Whether tokens go on as clauses, from how far they have been read.
use Rattle.std.specs.Prelude.{Bool, false, List, map, Option, Some, None}
use Rattle.std.specs.Borrow.{Bor}
use Rattle.clip_grammar.specs.Tokens as spec
use Rattle.clip_grammar.specs.Steps.Parser.{accepts}
use Rattle.clip_syntax.specs.Steps.TokenOf.{token_of}
use Rattle.clip_syntax.specs.declared.parser.Progress.{Progress}
use Rattle.clip_syntax.specs.declared.token.Token.{Token}

abbrev pub accepts_after : Progress → List spec.Token → Bool
accepts_after p ts = accepts ts p.depth p.may_end p.stage

-- after a step the tokens that are left go on as clauses; where no step is, they don't
abbrev pub next_accepts : Option (Progress × Bor (List Token)) → Bool
next_accepts None = false
next_accepts (Some next) = accepts_after next.0 (map token_of next.1.now)
