use Rattle.std.proofs.Common.{◌+◌, ◌≤◌, [], map, refl, ap, subst, arith}
use Rattle.std.proofs.lemmas.Result.{on_ok_weaker}
use Rattle.clip_stream.proofs.Faults.{on_err}
use Rattle.clip_front.specs.Outcome.{names_in}
use Rattle.clip_front.specs.Steps.Taking.{Takes}
use Rattle.clip_run.specs.Crews.{course}
use Rattle.clip_run.specs.Owed.{batches_owed}
use Rattle.clip_run.specs.Pending.{owed_by}
use Rattle.clip_run.specs.declared.batch.Pending.TheVariants as pending
use Rattle.clip_run.proofs.Owing.{breaks_owed, hears_none, turns_ready, turns_begun}
use Rattle.clip_run.proofs.Waiting.{counted_last}
use Rattle.clip_run.proofs.crew.Crew.take.Goals as goal

pub returns-in_err-text-clause-err : goal.returns-in_err-text-clause-err
returns-in_err-text-clause-err g c =
    on_err c.from_residual.result
    (breaks_owed _ _ c.args.number c.args.bytes.now []
    (hears_none (course c.args.self.now (g.A.Audience.hearers c.args.audience.now)) _ refl))

pub returns-in_err-push-in-Reply-clause-err : goal.returns-in_err-push-in-Reply-clause-err
returns-in_err-push-in-Reply-clause-err g c =
    on_err c.from_residual-in_err-push-in-Reply.result
    (breaks_owed _ _ c.args.number c.args.bytes.now []
    (hears_none (course c.args.self.now (g.A.Audience.hearers c.args.audience.now)) _ refl))

pub invariant_of-self-in-Reply : goal.invariant_of-self-in-Reply
invariant_of-self-in-Reply g c =
    λ few.
    let i = c.self.inside in
    let counted : batches_owed (map owed_by c.push.new.self.items) ≤ i.waiting + 0 =
    counted_last i.pending.items c.push.new.self.items (pending.Ready c.in-Reply.text) i.waiting
    c.in_ok-push-in-Reply.ensures.items (c.self.invariant few) in
    omega (arith, counted)

pub returns-in_ok-push-in-Reply-clause-ok : goal.returns-in_ok-push-in-Reply-clause-ok
returns-in_ok-push-in-Reply-clause-ok g c =
    let i = c.self.inside in
    let hearers = g.A.Audience.hearers c.args.audience.now in
    let takes = subst (Takes (names_in hearers) i.caller.history c.take_line.new.registry.history c.args.number
    c.args.bytes.now) c.in-Reply.is c.in_ok-text.ensures.taken in
    rw (← c.self.view_is)
    (turns_ready i.caller.history c.take_line.new.registry.history hearers i.giver.books.ledger
    i.giver.books.settings i.pending.items
    c.push.new.self.items (pending.Ready c.in-Reply.text) c.args.number c.args.bytes.now c.in-Reply.text.items takes
    c.in_ok-push-in-Reply.ensures.items refl)

pub returns-in-Match-clause-ok : goal.returns-in-Match-clause-ok
returns-in-Match-clause-ok g c =
    let i = c.self.inside in
    let hearers = g.A.Audience.hearers c.args.audience.now in
    let takes = subst (Takes (names_in hearers) i.caller.history c.take_line.new.registry.history c.args.number
    c.args.bytes.now) c.in-Match.is c.in_ok-text.ensures.taken in
    rw (← c.self.view_is)
    (on_ok_weaker c.let_wait.result
    (λ is. turns_begun i.caller.history c.take_line.new.registry.history hearers i.giver.books.ledger
    i.giver.books.settings _
    (course c.let_wait.new.self hearers) c.args.number c.args.bytes.now c.in-Match.drafts.items takes.0 takes.1
    (ap (λ crew. course crew hearers) is)) c.let_wait.ensures)

pub returns-in-Match-clause-err : goal.returns-in-Match-clause-err
returns-in-Match-clause-err g c =
    on_err c.let_wait.result
    (breaks_owed _ _ c.args.number c.args.bytes.now []
    (hears_none (course c.args.self.now (g.A.Audience.hearers c.args.audience.now)) _ refl))
