-- A token without where it lies in memory.
use Rattle.std.specs.Prelude.{◌≡◌, List, map, string_bytes}
use Rattle.clip_grammar.specs.Shape.{Written, tokens}
use Rattle.clip_grammar.specs.Tokens as spec
use Rattle.clip_grammar.specs.Tree.{end_of}
use Rattle.clip_syntax.specs.declared.token.Token.{Token}
use Rattle.clip_syntax.specs.declared.token.Token.TheVariants as code

abbrev pub token_of : Token → spec.Token
token_of code.Plus = spec.Plus
token_of code.Minus = spec.Minus
token_of code.Bang = spec.Bang
token_of code.Not = spec.Not
token_of code.And = spec.And
token_of code.Or = spec.Or
token_of code.Open = spec.Open
token_of code.Close = spec.Close
token_of code.Colon = spec.Colon
token_of code.Star = spec.Star
token_of (code.Plain text) = spec.Plain (string_bytes text)
token_of (code.Front text) = spec.Front (string_bytes text)
token_of (code.Phrase text) = spec.Phrase (string_bytes text)
token_of (code.Range low high) = spec.Range (end_of low) (end_of high)
token_of code.Other = spec.Other

-- the clauses that the tokens write, if any, have the property
abbrev pub IfWritten : List Token → (Written → Type 0) → Type 0
IfWritten ts P = (written : Written) → tokens written ≡ map token_of ts → P written
