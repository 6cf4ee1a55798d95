-- Answered here, so that a wrong body is refused at once.
use Rattle.std.proofs.Common.{ap, false, subst, ◌∙◌}
use Rattle.clip_registry.specs.Steps.Turns.{TakesTurns}
use Rattle.clip_run.proofs.own_registrar.OwnRegistrar.commit.Goals as goal

pub returns-in-Ok : goal.returns-in-Ok
returns-in-Ok c =
    let e = c.in-Ok.ensures in
    let merged = c.merged_after.ensures.merged in
    record {
      turns = subst (λ s. TakesTurns false s c.merged_after.new.merging.registrar) e.accepted merged.turns;
      few = merged.few;
      accepted = merged.history ∙ ap (λ s. s.history) e.accepted;
      answer = c.merged_after.ensures.answer ∙ e.answer;
      room = e.room;
      full = tt;
      unchanged = tt;
    }
