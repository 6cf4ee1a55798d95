use Rattle.std.proofs.Common.{rules, ◌≡◌, Some, [], ◌∷◌, ◌++◌, map, sym, ap, subst, ◌∙◌, append-nil, arith}
use Rattle.std.specs.Option.{option_map}
use Rattle.std.proofs.lemmas.List.{map-append}
use Rattle.clip_grammar.specs.Steps.Lexer.{lexeme_at}
use Rattle.clip_syntax.specs.Steps.Lexing.{with_tokens, IsLexing}
use Rattle.clip_syntax.specs.Steps.TokenOf.{token_of}
use Rattle.clip_syntax.proofs.Saying.{lexing_more}
use Rattle.clip_syntax.proofs.lexer.lex.Goals as goal

pub loop-tokens-preserved-in_ok-push : goal.loop-tokens-preserved-in_ok-push
loop-tokens-preserved-in_ok-push c =
    let e : option_map with_tokens (lexeme_at c.loop-tokens.rest.now)
    ≡ Some (token_of c.in-Some-token.token ∷ [], c.in-Some.after.now) = grind arith in
    let pushed : map token_of c.push.new.self.items ≡ map token_of c.loop-tokens.tokens.items
    ++ token_of c.in-Some-token.token ∷ [] =
    ap (map token_of) (search (rules, c.in_ok-push.ensures.items))
    ∙ map-append token_of c.loop-tokens.tokens.items (c.in-Some-token.token ∷ []) in
    subst (λ ts. IsLexing c.args.text.now ts c.in-Some.after.now) (sym pushed)
    (lexing_more _ _ _ _ _ c.loop-tokens.invariant e)

pub loop-tokens-preserved : goal.loop-tokens-preserved
loop-tokens-preserved c =
    let e : option_map with_tokens (lexeme_at c.loop-tokens.rest.now) ≡ Some ([], c.in-Some.after.now) = grind arith in
    subst (λ ts. IsLexing c.args.text.now ts c.in-Some.after.now)
    (append-nil (map token_of c.loop-tokens.tokens.items)) (lexing_more _ _ _ _ _ c.loop-tokens.invariant e)
