use Rattle.std.proofs.Common.{drop, subst, take, arith}
use mathlib.Core.List.{IsPrefix}
use Rattle.std.proofs.lemmas.List.{take-append-drop}
use Rattle.std.proofs.lemmas.Grind.{common_steps}
use Rattle.clip_desk.specs.Seats.{SeatIs}
use Rattle.clip_model.specs.History.{own}
use Rattle.clip_desk.proofs.seat.Seat.learn.Goals as goal

pub returns-then-self-receipt-clause-mine : goal.returns-then-self-receipt-clause-mine
returns-then-self-receipt-clause-mine g c =
    let all = own c.again.result.seen.log c.self.inside.right.caller in
    (drop c.self.inside.right.made all, take-append-drop c.self.inside.right.made all)

pub returns-else-self-receipt-clause-mine : goal.returns-else-self-receipt-clause-mine
returns-else-self-receipt-clause-mine g c =
    let s = c.self.inside in
    let all = own s.seen_history.seen.log s.right.caller in
    let begins : IsPrefix (take s.right.made all) all = (drop s.right.made all, take-append-drop s.right.made all) in
    subst (λ (v : SeatIs). IsPrefix v.mine (own v.seen v.caller)) c.self.view_is begins

-- proved by search alone: they stand here so that a wrong body is refused at once
pub invariant_of-self : goal.invariant_of-self
invariant_of-self g c = grind (arith, common_steps)

pub returns-then-self-receipt-clause-seen : goal.returns-then-self-receipt-clause-seen
returns-then-self-receipt-clause-seen g c = grind (arith, common_steps)
