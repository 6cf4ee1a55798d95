-- Answered here, so that a wrong body is refused at once.
use Rattle.std.proofs.Common.{inr}
use Rattle.clip_standing.specs.Command.{command_of}
use Rattle.clip_run.proofs.own_registrar.OwnRegistrarRegistry.accept.Goals as goal

pub returns-in-Ok : goal.returns-in-Ok
returns-in-Ok c =
    let e = c.in-Ok.ensures in
    record {
      judged = (e.room, e.accepted, e.answer);
      goes_on = inr (command_of c.args.command, e.turns, e.few);
    }
