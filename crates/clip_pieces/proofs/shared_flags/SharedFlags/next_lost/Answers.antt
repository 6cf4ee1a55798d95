use Rattle.std.proofs.Common.{◌%◌, ◌+◌, ◌&&◌, not, ap₂, ap, ◌∙◌, length, arith}
use Rattle.clip_pieces.specs.Steps.Bits.{is_set}
use Rattle.clip_pieces.proofs.Held.{held_length}
use Rattle.clip_pieces.proofs.Lost.{AtWord, found_lost, lost_within, none_earlier, none_more, read_held}
use Rattle.clip_pieces.proofs.shared_flags.SharedFlags.next_lost.Goals as goal
use Rattle.clip_pieces.proofs.shared_flags.SharedFlags.next_lost.Goals.{After-lost_bits-lost}

at : (c : After-lost_bits-lost) → AtWord c.self.inside.words c.others.inside.words c.args.self.now c.args.others.now
    c.args.from c.loop-word.word c.max-first.result c.lost_bits-lost.result
at c =
    let behind = c.loop-word.auto.word in
    let first = c.max-first.ensures in
    record {
      mine = read_held c.self.inside.len c.self.inside.words c.args.self.now c.self.invariant c.self.view_is;
      theirs = read_held c.others.inside.len c.others.inside.words c.args.others.now c.others.invariant
          c.others.view_is;
      before = c.loop-word.invariant;
      here = omega arith;
      least = λ place after later. omega arith;
      within = λ bit low. c.lost_bits-lost.ensures.within bit low
          ∙ ap₂ (λ v w. is_set v (c.max-first.result % 64 + bit) && not (is_set w (c.max-first.result % 64 + bit)))
          c.word_at.ensures c.word_at-in-loop-word.ensures;
      past = c.lost_bits-lost.ensures.past;
    }

pub overflow_mul-word : goal.overflow_mul-word
overflow_mul-word c =
    let long = held_length c.self.inside.len c.self.inside.words c.self.invariant in
    let same = ap length c.self.view_is in
    omega (arith, c.self.invariant.1, c.loop-word-test.true, c.len-word-end.ensures, c.len.ensures, c.len.type_inv)

pub overflow_add-result : goal.overflow_add-result
overflow_add-result c =
    let here = (goal.at.overflow_add-result c).After-lost_bits-lost in
    let some = c.if-lost-ne0.true in
    let lost = found_lost _ _ _ _ _ _ _ _ (at here) (omega arith) c.lost_bits-lost.type_inv in
    let within = lost_within c.args.self.now c.args.others.now _ lost in
    omega (arith, within, c.len.ensures, c.len.type_inv)

pub returns-then-lost-ne0-clause-lost : goal.returns-then-lost-ne0-clause-lost
returns-then-lost-ne0-clause-lost c =
    let here = (goal.at.returns-then-lost-ne0-clause-lost c).After-lost_bits-lost in
    let some = c.if-lost-ne0.true in
    found_lost _ _ _ _ _ _ _ _ (at here) (omega arith) c.lost_bits-lost.type_inv

pub returns-then-lost-ne0-clause-first : goal.returns-then-lost-ne0-clause-first
returns-then-lost-ne0-clause-first c =
    let here = (goal.at.returns-then-lost-ne0-clause-first c).After-lost_bits-lost in
    let some = c.if-lost-ne0.true in
    none_earlier _ _ _ _ _ _ _ _ (at here) (omega arith) c.lost_bits-lost.type_inv

pub loop-word-preserved : goal.loop-word-preserved
loop-word-preserved c =
    let here = (goal.at.loop-word-preserved c).After-lost_bits-lost in
    none_more _ _ _ _ _ _ _ _ (at here) c.if-lost-ne0.false
