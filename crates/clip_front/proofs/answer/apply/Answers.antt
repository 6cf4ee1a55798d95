use Rattle.clip_standing.specs.Command.{command_of}
use Rattle.clip_front.proofs.Responses.{replies_accepted, replies_full}
use Rattle.clip_front.proofs.answer.apply.Goals as goal

pub returns-in-Some-clause-replies : goal.returns-in-Some-clause-replies
returns-in-Some-clause-replies g c =
    let history = g.H.Registry.history_in in
    let judged = rw c.in-Some.is at c.in_ok-applied.ensures.judged in
    replies_accepted (history c.args.registry.now) (history c.accept.new.self) (command_of c.args.command)
    c.in-Some.applied _ judged c.accepted.ensures

pub returns-in-None-clause-replies : goal.returns-in-None-clause-replies
returns-in-None-clause-replies g c =
    let history = g.H.Registry.history_in in
    let judged = rw c.in-None.is at c.in_ok-applied.ensures.judged in
    replies_full (history c.args.registry.now) (history c.accept.new.self) (command_of c.args.command) judged
