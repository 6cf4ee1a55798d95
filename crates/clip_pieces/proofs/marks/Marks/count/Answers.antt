use Rattle.std.proofs.Common.{◌+◌, get_or, length, ap, ap₂, sym, ◌∙◌, arith}
use Rattle.std.proofs.lemmas.List.{take_all}
use Rattle.clip_pieces.specs.Steps.Bits.{flags_of}
use Rattle.clip_pieces.proofs.Both.{all_counted, few_counted, few_ones, next_count, ones_counted, set_of}
use Rattle.clip_pieces.proofs.marks.Marks.count.Goals as goal

pub overflow_add-count : goal.overflow_add-count
overflow_add-count c =
    let words = c.deref-word-items.result.now in
    let j = c.loop-word.word-index in
    let small = few_ones (get_or words j 0) (c.type_inv.word-items j).fits in
    let few = few_counted words j (omega arith) in
    omega (arith, small, few, c.loop-word.invariant, c.self.invariant.1, ap length c.deref-word-items.ensures.value)

pub loop-word-preserved : goal.loop-word-preserved
loop-word-preserved c =
    let words = c.deref-word-items.result.now in
    let j = c.loop-word.word-index in
    ap₂ (λ a b. a + b) c.loop-word.invariant (ones_counted (get_or words j 0) (c.type_inv.word-items j).fits)
    ∙ sym (next_count words j c.loop-word-test.true)

pub returns : goal.returns
returns c =
    rw (← c.self.view_is)
    (c.loop-word.invariant
    ∙ ap (λ ws. set_of (flags_of ws))
    (take_all c.loop-word.word-index c.deref-word-items.result.now c.loop-word-test.false
    ∙ c.deref-word-items.ensures.value)
    ∙ all_counted c.self.inside.bound c.self.inside.words.items c.self.invariant)
