use Rattle.std.proofs.Common.{◌≡◌, ◌+◌, ◌∷◌, map, max, drop, sym, ap, ◌∙◌, arith, rules, tests}
use Rattle.std.proofs.lemmas.List.{drop_more}
use Rattle.clip_syntax.specs.Steps.Sizes.{most_open}
use Rattle.clip_syntax.specs.Steps.TokenOf.{token_of}
use Rattle.clip_syntax.proofs.Sizing.{open_more, open_bound}
use Rattle.clip_syntax.proofs.size.most_open.Goals as goal

pub loop-token-preserved : goal.loop-token-preserved
loop-token-preserved c =
    let ts = c.args.tokens.now in
    let i = c.loop-token.token-index in
    let token = token_of c.token-item.result in
    let parts : map token_of (drop i ts) ≡ token ∷ map token_of (drop (i + 1) ts) =
    ap (map token_of) (drop_more ts i c.token-item.result c.loop-token-test.true)
    ∙ ap (λ t. token_of t ∷ map token_of (drop (i + 1) ts)) (sym c.token-item.is) in
    let larger : c.max-most.result ≡ max c.loop-token.most c.open_after-open.result = search (rules, tests) in
    let read = open_more token _ _ c.loop-token.open c.loop-token.most _ parts c.loop-token.invariant.1
    c.loop-token.invariant.0 in
    let bound = open_bound token c.loop-token.open in
    let whole : max c.max-most.result (most_open (map token_of (drop (i + 1) ts)) c.open_after-open.result)
    ≡ most_open (map token_of ts) 0 =
    ap (λ x. max x (most_open (map token_of (drop (i + 1) ts)) c.open_after-open.result)) larger
    ∙ ap (λ x. max (max c.loop-token.most x) (most_open (map token_of (drop (i + 1) ts)) x)) c.open_after-open.ensures
    ∙ read in
    (whole, omega arith, omega arith)
