use Rattle.std.proofs.Common.{◌++◌, get_or, ap, ◌∙◌, arith}
use Rattle.std.proofs.lemmas.List.{take_all}
use Rattle.clip_pieces.specs.Marked.{marked, marked_from}
use Rattle.clip_pieces.specs.Steps.Bits.{bits_of, flags_of}
use Rattle.clip_pieces.proofs.Words.{all_marked, next_word}
use Rattle.clip_pieces.proofs.marks.Marks.numbers_into.Goals as goal

pub loop-word-preserved : goal.loop-word-preserved
loop-word-preserved c = record {
  first = omega arith;
  numbers =
      c.in_ok-add_numbers.ensures
      ∙ ap (λ ns. ns ++ marked_from c.loop-word.first
      (bits_of 64 (get_or c.deref-word-items.result.now c.loop-word.word-index 0))) c.loop-word.invariant.numbers
      ∙ next_word c.deref-word-items.result.now c.loop-word.word-index c.loop-word.first c.loop-word-test.true
      c.loop-word.invariant.first;
}

pub returns : goal.returns
returns c =
    rw (← c.self.view_is)
    (c.loop-word.invariant.numbers
    ∙ ap (λ ws. marked (flags_of ws))
    (take_all c.loop-word.word-index c.deref-word-items.result.now c.loop-word-test.false
    ∙ c.deref-word-items.ensures.value)
    ∙ all_marked c.self.inside.bound c.self.inside.words.items c.self.invariant)
