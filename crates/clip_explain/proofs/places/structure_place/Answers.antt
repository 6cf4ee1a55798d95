use Rattle.std.proofs.Common.{◌≡◌, ◌∷◌, ◌∙◌, map, sym, ap, arith, Some, None}
use Rattle.clip_explain.specs.Lexemes.{placed_of}
use Rattle.clip_explain.specs.Places.{IsOutOfPlace}
use Rattle.clip_explain.specs.Steps.Fronts.{after_all, after_front}
use Rattle.clip_explain.proofs.Beginnings.{begun, not_begun}
use Rattle.clip_explain.proofs.Placing.{search_start, search_more, search_here, search_end}
use Rattle.clip_explain.specs.declared.fronts.ClausesBegun.{ClausesBegun}
use Rattle.clip_explain.proofs.places.structure_place.Goals as goal

pub loop-lexeme-init : goal.loop-lexeme-init
loop-lexeme-init c = (
  search_start IsOutOfPlace _ _ _ (ap Some (sym c.start-front.ensures)),
  omega (arith, ap (λ (f : ClausesBegun). f.depth) c.start-front.ensures),
)

pub loop-lexeme-preserved : goal.loop-lexeme-preserved
loop-lexeme-preserved c =
    let first = placed_of c.in-Some.lexeme.now in
    let later = map placed_of c.in-Some.later.now in
    let s = c.loop-lexeme.invariant.0 in
    let parts : map placed_of c.loop-lexeme.rest.now ≡ first ∷ later = grind arith in
    let stepped : after_all (first.token ∷ s.earlier) ≡ Some c.in-Some-after.next =
    ap (λ o. after_front o first.token) s.knows ∙ sym c.after.ensures.after ∙ c.in-Some-after.is in (
      search_more IsOutOfPlace _ _ _ _ later first _ s parts
          (λ out. out (begun (first.token ∷ s.earlier) c.in-Some-after.next stepped)) stepped,
      grind arith,
    )

pub returns-in_default-after : goal.returns-in_default-after
returns-in_default-after c =
    let first = placed_of c.in-Some.lexeme.now in
    let later = map placed_of c.in-Some.later.now in
    let s = c.loop-lexeme.invariant.0 in
    let parts : map placed_of c.loop-lexeme.rest.now ≡ first ∷ later = grind arith in
    let none : after_all (first.token ∷ s.earlier) ≡ None =
    ap (λ o. after_front o first.token) s.knows ∙ sym c.after.ensures.after ∙ c.in_default-after.is in
    search_here IsOutOfPlace _ _ _ later first _ s parts (not_begun (first.token ∷ s.earlier) none)

pub returns : goal.returns
returns c = search_end IsOutOfPlace _ _ c.loop-lexeme.rest.now _ c.loop-lexeme.invariant.0 c.in_default.ensures.cases
