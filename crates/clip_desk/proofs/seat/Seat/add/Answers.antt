use Rattle.std.proofs.Common.{◌∙◌, [], ◌∷◌, length, ap, sym, arith, length-append, rules}
use Rattle.std.proofs.lemmas.List.{length-take-le}
use Rattle.clip_model.proofs.Counting.{own_length}
use Rattle.clip_model.specs.History.{own}
use Rattle.clip_desk.specs.Chronicle.{head_of}
use Rattle.clip_desk.proofs.seat.Seat.add.Goals as goal

pub follow-requires-clause-head : goal.follow-requires-clause-head
follow-requires-clause-head g c = c.requires.desk.1 ∙ ap head_of (sym c.requires.desk.0)

pub follow-requires-clause-one_more : goal.follow-requires-clause-one_more
follow-requires-clause-one_more g c = let o = c.requires.one_more in
    (o.0, o.1, o.2 ∙ sym (ap (λ v. v.caller) c.self.view_is))

pub follow-requires-clause-book : goal.follow-requires-clause-book
follow-requires-clause-book g c = c.self.invariant.5 ∙ ap (λ v. v.book) c.self.view_is ∙ sym c.requires.desk.0

pub follow-requires-clause-counted : goal.follow-requires-clause-counted
follow-requires-clause-counted g c =
    let s = c.self.inside in
    let history = c.args.registrar.now.history in
    let o = c.requires.one_more in
    let m = length-take-le s.right.made (own s.seen_history.seen.log s.right.caller) c.self.invariant.1 in
    let is = ap (λ v. length v.mine) c.self.view_is in
    let there = ap (λ v. length (own history v.caller)) c.self.view_is in
    let long = ap length o.1 ∙ length-append c.args.seen_history.now.seen.log (o.0 ∷ []) in
    omega (arith, m, is, there, long, own_length history s.right.caller, c.requires.own)

pub returns-then-not-follow-clause-seat : goal.returns-then-not-follow-clause-seat
returns-then-not-follow-clause-seat g c = search rules
