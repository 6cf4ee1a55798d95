use Rattle.std.proofs.Common.{◌∷◌, ◌++◌, [], map, take, sym, ap, ◌∙◌}
use Rattle.std.proofs.lemmas.List.{map_more, take_all}
use Rattle.clip_terms.specs.Steps.Numbers.{number_at}
use Rattle.clip_terms.proofs.reading.numbers_at.Goals as goal

pub loop-place-init : goal.loop-place-init
loop-place-init c = c.in_ok-numbers.ensures.items

pub loop-place-preserved : goal.loop-place-preserved
loop-place-preserved c =
    let places = c.args.places.now in
    let i = c.loop-place.place-index in
    let number = number_at c.args.by_key.now in
    c.in_ok-push.ensures.items ∙ ap (λ numbers. numbers ++ c.number_at.result ∷ []) c.loop-place.invariant
    ∙ ap (λ n. map number (take i places) ++ n ∷ []) c.number_at.ensures
    ∙ sym (map_more number places i 0 c.loop-place-test.true)

pub returns : goal.returns
returns c = c.loop-place.invariant
    ∙ ap (map (number_at c.args.by_key.now))
    (take_all c.loop-place.place-index c.args.places.now c.loop-place-test.false)
