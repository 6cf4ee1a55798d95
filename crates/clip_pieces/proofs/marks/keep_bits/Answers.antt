use Rattle.std.proofs.Common.{◌≡◌, get_or, unwrap_or, ap, ap₂, ◌∙◌, arith}
use Rattle.std.specs.Int.Bits.{bit_and}
use Rattle.std.proofs.lemmas.Option.{unwrap_or-slice_get}
use Rattle.std.proofs.lemmas.Grind.{common_steps, get_or_default_zero}
use Rattle.clip_pieces.proofs.marks.keep_bits.Goals as goal

pub loop-place-preserved : goal.loop-place-preserved
loop-place-preserved c =
    let words = c.loop-place.words.items in
    let place = c.loop-place.place in
    let word : c.index_mut.result.now ≡ get_or c.args.words.now.items place 0 =
    c.index_mut.ensures.value ∙ get_or_default_zero words place c.index_mut.result.now (omega arith)
    ∙ c.loop-place.invariant.rest place (omega arith) in
    let other : c.unwrap_or.result ≡ get_or c.args.others.now place 0 =
    c.unwrap_or.ensures ∙ ap (λ o. unwrap_or o 0) (c.copied.ensures ∙ c.get.ensures)
    ∙ unwrap_or-slice_get c.args.others.now place 0 in
    let here : bit_and c.index_mut.result.now c.unwrap_or.result
    ≡ bit_and (get_or c.args.words.now.items place 0) (get_or c.args.others.now place 0) = ap₂ bit_and word other in
    grind (arith, common_steps, here)
