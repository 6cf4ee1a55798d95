-- The flag goes into a word of its own, or into the last word.
use Rattle.std.proofs.Common.{◌≡◌, ◌+◌, arith}
use Rattle.clip_pieces.proofs.Held.{flag_in_new, flag_in_last}
use Rattle.clip_pieces.proofs.shared_flags.SharedFlags.push.Goals as goal
use Rattle.clip_pieces.proofs.shared_flags.SharedFlags.push.Goals.{then-self-eq0+in_ok-push}
use Rattle.clip_pieces.proofs.shared_flags.SharedFlags.push.Goals.{else-self-eq0+in_ok-set_bit}

pub invariant_of-self-2 : goal.invariant_of-self-2
invariant_of-self-2 c =
    let more : c.in-Some.len ≡ c.self.inside.len + 1 = omega (arith, c.in-Some.ensures) in
    elim c.if-self-eq0.branch [
      | then-self-eq0+in_ok-push w ↦
          let all = flag_in_new c.self.inside.len c.self.inside.words c.self.invariant w.with_bit.result c.args.flag
          w.if-self-eq0.true w.with_bit.ensures in
          rw (w.self-inside-is, w.in_ok-push.ensures.ok, more) all.0
      | else-self-eq0+in_ok-set_bit w ↦
          let all = flag_in_last c.self.inside.len c.self.inside.words c.self.invariant w.set_bit.new.words c.args.flag
          w.if-self-eq0.false w.in_ok-set_bit.ensures.ok in
          rw (w.self-inside-is, more) all.0
    ]

pub returns-clause-ok : goal.returns-clause-ok
returns-clause-ok c =
    let more : c.in-Some.len ≡ c.self.inside.len + 1 = omega (arith, c.in-Some.ensures) in
    elim c.if-self-eq0.branch [
      | then-self-eq0+in_ok-push w ↦
          let all = flag_in_new c.self.inside.len c.self.inside.words c.self.invariant w.with_bit.result c.args.flag
          w.if-self-eq0.true w.with_bit.ensures in
          rw (w.self-inside-is, w.in_ok-push.ensures.ok, more, ← c.self.view_is) all.1
      | else-self-eq0+in_ok-set_bit w ↦
          let all = flag_in_last c.self.inside.len c.self.inside.words c.self.invariant w.set_bit.new.words c.args.flag
          w.if-self-eq0.false w.in_ok-set_bit.ensures.ok in
          rw (w.self-inside-is, more, ← c.self.view_is) all.1
    ]
