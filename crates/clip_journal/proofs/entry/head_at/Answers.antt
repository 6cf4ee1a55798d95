use Rattle.std.proofs.Common.{arith}
use Rattle.std.proofs.lemmas.Bool.Decides.{nat_tests}
use Rattle.clip_journal.proofs.Heads.{head_found, head_told, head_none}
use Rattle.clip_journal.proofs.entry.head_at.Goals as goal

pub returns-then-told-place-clause-wrong : goal.returns-then-told-place-clause-wrong
returns-then-told-place-clause-wrong c =
    λ _ size more lt e.
    let same = (head_told c.args.link.now c.args.place c.number_at-told.result.0 size _ _ more (omega arith)
    (omega arith) c.number_at-told.ensures e).0 in
    grind (arith, nat_tests, same, c.if-told-place.true)

pub returns-in-Some-clause-found : goal.returns-in-Some-clause-found
returns-in-Some-clause-found c =
    head_found c.args.link.now c.args.place _ _ _ _ _ _ _ c.number_at-told.ensures
    (grind (arith, nat_tests, c.if-told-place.false)) c.number_at-size.ensures c.check_of-check_sum.ensures
    c.in-Some.ensures

pub returns-in-None-clause-wrong : goal.returns-in-None-clause-wrong
returns-in-None-clause-wrong c =
    λ _. head_none c.args.link.now c.args.place _ _ _ _ _ _ (omega arith) (omega arith) (omega arith)
    c.number_at-told.ensures c.number_at-size.ensures c.check_of-check_sum.ensures c.in-None.ensures
