use Rattle.std.proofs.Common.{length, ap, arith}
use Rattle.std.proofs.lemmas.List.{length-take-le}
use Rattle.std.proofs.lemmas.Grind.{common_steps}
use Rattle.clip_model.proofs.Counting.{own_length}
use Rattle.clip_model.specs.History.{own}
use Rattle.clip_desk.proofs.seat.Seat.is_within.Goals as goal

pub returns-then-self-count-clause-mine : goal.returns-then-self-count-clause-mine
returns-then-self-count-clause-mine g c is =
    let s = c.self.inside in
    let seen = s.seen_history.seen.log in
    let made = length-take-le s.right.made (own seen s.right.caller) c.self.invariant.1 in
    let mine = ap (λ v. length v.mine) c.self.view_is in
    let long = own_length seen s.right.caller in
    let within = c.self.invariant.1 in
    grind (arith, common_steps, made, mine, long, within)
