use Rattle.std.proofs.Common.{◌≡◌, ◌&&◌, ◌∷◌, ◌∙◌, map, refl, sym, ap, arith}
use Rattle.std.proofs.lemmas.Bool.{false≢true}
use Rattle.clip_grammar.specs.Steps.LeftOut.{begins_left_out, is_colon}
use Rattle.clip_explain.specs.Lexemes.{placed_of}
use Rattle.clip_explain.specs.Places.{IsLeftOut, tokens_in}
use Rattle.clip_explain.proofs.Placing.{search_start, search_more, search_here, search_end, colon_after_star}
use Rattle.clip_explain.proofs.places.left_out_place.Goals as goal

pub loop-first-init : goal.loop-first-init
loop-first-init c = search_start IsLeftOut _ _ _ (refl, refl)

pub returns-then-is_left_out : goal.returns-then-is_left_out
returns-then-is_left_out c =
    let first = placed_of c.in-Some.first.now in
    let later = map placed_of c.in-Some.later.now in
    let s = c.loop-first.invariant in
    let parts : map placed_of c.loop-first.rest.now ≡ first ∷ later = grind arith in
    search_here IsLeftOut _ _ _ later first _ s parts
    (ap (λ b. begins_left_out b first.token (tokens_in later)) (sym s.knows.1)
    ∙ sym c.is_left_out.ensures ∙ c.if-is_left_out.true)

pub loop-first-preserved : goal.loop-first-preserved
loop-first-preserved c =
    let first = placed_of c.in-Some.first.now in
    let later = map placed_of c.in-Some.later.now in
    let s = c.loop-first.invariant in
    let parts : map placed_of c.loop-first.rest.now ≡ first ∷ later = grind arith in
    search_more IsLeftOut _ _ _ _ later first _ s parts
    (λ left. false≢true (sym c.if-is_left_out.false ∙ c.is_left_out.ensures
    ∙ ap (λ b. begins_left_out b first.token (tokens_in later)) s.knows.1 ∙ left)) (
      c.is_star-after_star.ensures,
      c.is_colon_after-after_star_colon.ensures
          ∙ ap (λ b. is_colon first.token && b) s.knows.0 ∙ colon_after_star first.token s.earlier,
    )

pub returns : goal.returns
returns c = search_end IsLeftOut _ _ c.loop-first.rest.now _ c.loop-first.invariant c.in_default.ensures.cases
