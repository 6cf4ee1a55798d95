use Rattle.std.proofs.Common.{OnOk, refl, subst}
use Rattle.clip_standing.specs.Command.{command_of}
use Rattle.clip_engine.specs.Engine.{Accepts, EngineIs}
use Rattle.clip_engine.proofs.Answered.{accepted_of}
use Rattle.clip_engine.proofs.engine.Engine.command.Goals as goal
use Rattle.clip_engine.proofs.engine.Engine.command.Goals.{in-Ok-Registered, in-Ok-Registered-2, in-Ok-Registered-3}
use Rattle.clip_engine.proofs.engine.Engine.command.Goals.{in-Err-Full, in-Err-NoMemory}

pub returns-clause-accepted : goal.returns-clause-accepted
returns-clause-accepted c =
    let command = command_of c.args.command in
    let inside = c.self.inside in
    let old : EngineIs = record { owned = inside.owned; lines = inside.lines; hits = inside.hits } in
    let new : EngineIs = record { owned = c.commit.new.self; lines = inside.lines; hits = inside.hits } in
    let did = c.commit.ensures in
    let all : OnOk c.commit.result (Accepts c.args.self.now new command) =
    subst (λ (e : EngineIs). OnOk c.commit.result (Accepts e new command)) c.self.view_is
    (accepted_of c.commit.result old new command did.accepted did.turns did.few refl refl) in
    elim c.match-commit.branch [
      | in-Ok-Registered w ↦ rw w.result-is (rw w.in-Ok-Registered.is at all)
      | in-Ok-Registered-2 w ↦ rw w.result-is (rw w.in-Ok-Registered.is at all)
      | in-Ok-Registered-3 w ↦ rw w.result-is (rw w.in-Ok-Registered.is at all)
      | in-Err-Full w ↦ rw w.result-is tt
      | in-Err-NoMemory w ↦ rw w.result-is tt
    ]
