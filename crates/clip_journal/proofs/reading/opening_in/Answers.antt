use Rattle.std.proofs.Common.{length, ap, arith}
use Rattle.std.proofs.lemmas.Bool.Decides.{nat_tests}
use Rattle.clip_journal.proofs.Heads.{length-numbers, numbers_found, second_is}
use Rattle.clip_journal.proofs.reading.opening_in.Goals as goal

pub returns-then-first-ne-OPENING_BYTES-clause-none : goal.returns-then-first-ne-OPENING_BYTES-clause-none
returns-then-first-ne-OPENING_BYTES-clause-none c =
    λ a b lb la e.
    let len = ap length e in
    let sixteen = length-numbers a b in
    grind (arith, nat_tests, len, sixteen, c.if-first-ne-OPENING_BYTES.true)

pub returns-then-live-behind-clause-none : goal.returns-then-live-behind-clause-none
returns-then-live-behind-clause-none c =
    λ a b lb la e.
    let p = second_is c.number_at-changes.result.0 c.number_at-live.result.0 a b c.args.first.now _ _ (omega arith)
    (omega arith) (omega arith) (omega arith) c.number_at-changes.ensures c.number_at-live.ensures e in
    absurd (omega (arith, p.0, p.1))

pub returns-then-since-room-clause-none : goal.returns-then-since-room-clause-none
returns-then-since-room-clause-none c =
    λ a b lb la e.
    let p = second_is c.number_at-changes.result.0 c.number_at-live.result.0 a b c.args.first.now _ _ (omega arith)
    (omega arith) (omega arith) (omega arith) c.number_at-changes.ensures c.number_at-live.ensures e in
    absurd (omega (arith, p.0, p.1))

pub returns-clause-some : goal.returns-clause-some
returns-clause-some c =
    numbers_found c.number_at-changes.result.0 c.number_at-live.result.0 c.args.first.now _ _
    (grind (arith, nat_tests, c.if-first-ne-OPENING_BYTES.false)) c.number_at-changes.ensures c.number_at-live.ensures
