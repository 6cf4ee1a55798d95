use Rattle.std.proofs.Common.{rules, ◌≡◌}
use Rattle.clip_model.specs.History.{applied, with_command}
use Rattle.clip_model.specs.History as model
use Rattle.clip_standing.specs.Command.{command_of, answer_of}
use Rattle.clip_desk.specs.Seats.{ReceiptIs}
use Rattle.clip_desk.proofs.Commits.{both_ok}
use Rattle.clip_desk.proofs.desk.Desk.commit.Goals as goal

pub returns-clause-last : goal.returns-clause-last
returns-clause-last g c =
    let before = c.deref_mut.result.now.registry.history in
    let caller = c.args.seat.now.caller in
    let command = command_of c.args.command in
    both_ok
    (λ (r : ReceiptIs). r.history ≡ with_command before caller command)
    (λ (r : ReceiptIs). r.applied ≡ answer_of command (applied before command))
    (λ (r : ReceiptIs). (x : model.History) × (r.history ≡ with_command x caller command)
    × (r.applied ≡ answer_of command (applied x command)))
    c.commit-answer.result c.commit-answer.ensures.entry c.commit-answer.ensures.applied (λ r p q. (before, p, q))

-- proved by search alone: it stands here so that a wrong body is refused at once
pub commit-answer-requires-clause-desk : goal.commit-answer-requires-clause-desk
commit-answer-requires-clause-desk g c = search rules

pub returns-clause-legal : goal.returns-clause-legal
returns-clause-legal g c = search rules
