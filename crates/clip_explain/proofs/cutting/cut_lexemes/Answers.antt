use Rattle.std.proofs.Common.{rules, ◌≡◌, ◌+◌, ◌-◌, Some, [], ◌∷◌, ◌++◌, map, length, take, encode_utf8_all, sym, ap}
use Rattle.std.proofs.Common.{subst}
use Rattle.std.proofs.Common.{◌∙◌, append-nil, arith}
use Rattle.std.specs.Option.{option_map}
use Rattle.std.specs.Prelude.{option_to_list}
use Rattle.std.proofs.lemmas.List.{map-append}
use Rattle.clip_grammar.specs.Steps.Lexer.{lexeme_at}
use Rattle.clip_syntax.specs.Steps.Lexing.{with_tokens}
use Rattle.clip_syntax.specs.Steps.TokenOf.{token_of}
use Rattle.clip_explain.specs.Lexemes.{placed_of}
use Rattle.clip_explain.specs.Steps.Cutting.{IsCutting}
use Rattle.clip_explain.specs.declared.cutting.Lexeme.{Lexeme}
use Rattle.clip_explain.proofs.Lexing.{cutting_more, rest_shorter, cut_fits, front_fits}
use Rattle.clip_explain.proofs.cutting.cut_lexemes.Goals as goal

pub before-requires : goal.before-requires
before-requires c =
    let e : option_map with_tokens (lexeme_at c.loop-lexemes.rest.now)
    ≡ Some (map token_of (option_to_list c.in-Some.token), c.in-Some.after.now) = grind arith in
    omega (arith, rest_shorter _ _ _ e)

pub byte_len-requires : goal.byte_len-requires
byte_len-requires c =
    let rest = c.loop-lexemes.rest.now in
    let after = c.in-Some.after.now in
    omega (
      arith,
      ap (λ x. length (encode_utf8_all x)) c.before-in-Some.ensures,
      front_fits rest (length rest - length after),
      cut_fits _ _ _ _ c.loop-lexemes.invariant,
      c.requires,
    )

pub overflow_add-end : goal.overflow_add-end
overflow_add-end c =
    let rest = c.loop-lexemes.rest.now in
    let after = c.in-Some.after.now in
    omega (
      arith,
      ap (λ x. length (encode_utf8_all x)) c.before-in-Some.ensures,
      c.byte_len.ensures,
      front_fits rest (length rest - length after),
      cut_fits _ _ _ _ c.loop-lexemes.invariant,
      c.requires,
    )

pub loop-lexemes-smaller-in_ok-push : goal.loop-lexemes-smaller-in_ok-push
loop-lexemes-smaller-in_ok-push c =
    let e : option_map with_tokens (lexeme_at c.loop-lexemes.rest.now)
    ≡ Some (map token_of (option_to_list c.in-Some.token), c.in-Some.after.now) = grind arith in
    omega (arith, rest_shorter _ _ _ e)

pub loop-lexemes-smaller : goal.loop-lexemes-smaller
loop-lexemes-smaller c =
    let e : option_map with_tokens (lexeme_at c.loop-lexemes.rest.now)
    ≡ Some (map token_of (option_to_list c.in-Some.token), c.in-Some.after.now) = grind arith in
    omega (arith, rest_shorter _ _ _ e)

pub loop-lexemes-preserved-in_ok-push : goal.loop-lexemes-preserved-in_ok-push
loop-lexemes-preserved-in_ok-push c =
    let rest = c.loop-lexemes.rest.now in
    let after = c.in-Some.after.now in
    let start = c.loop-lexemes.start in
    let end = start + c.byte_len.result in
    let token = c.in-Some-token.token in
    let items = c.loop-lexemes.lexemes.items in
    let new : Lexeme = record { token = token; start = start; end = end } in
    let e : option_map with_tokens (lexeme_at rest) ≡ Some (token_of token ∷ [], after) = grind arith in
    let sum : end ≡ start + length (encode_utf8_all (take (length rest - length after) rest)) =
    ap (λ n. start + n) (c.byte_len.ensures ∙ ap (λ x. length (encode_utf8_all x)) c.before-in-Some.ensures) in
    let pushed : map placed_of c.push.new.self.items ≡ map placed_of items ++ placed_of new ∷ [] =
    ap (map placed_of) (search (rules, c.in_ok-push.ensures.items)) ∙ map-append placed_of items (new ∷ []) in
    subst (λ ps. IsCutting c.args.text.now ps after end) (sym pushed)
    (cutting_more _ _ rest start (token_of token ∷ []) after end c.loop-lexemes.invariant e sum)

pub loop-lexemes-preserved : goal.loop-lexemes-preserved
loop-lexemes-preserved c =
    let rest = c.loop-lexemes.rest.now in
    let after = c.in-Some.after.now in
    let start = c.loop-lexemes.start in
    let end = start + c.byte_len.result in
    let e : option_map with_tokens (lexeme_at rest) ≡ Some ([], after) = grind arith in
    let sum : end ≡ start + length (encode_utf8_all (take (length rest - length after) rest)) =
    ap (λ n. start + n) (c.byte_len.ensures ∙ ap (λ x. length (encode_utf8_all x)) c.before-in-Some.ensures) in
    subst (λ ps. IsCutting c.args.text.now ps after end) (append-nil (map placed_of c.loop-lexemes.lexemes.items))
    (cutting_more _ _ rest start [] after end c.loop-lexemes.invariant e sum)
