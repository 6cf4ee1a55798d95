use Rattle.std.proofs.Common.{[], ◌∷◌, refl}
use Rattle.clip_trace.specs.Event.{event_of, answer_of}
use Rattle.clip_trace.proofs.trace_answer.respond.Goals as goal

pub returns-in_ok-step-in-Event : goal.returns-in_ok-step-in-Event
returns-in_ok-step-in-Event c =
    let answer = answer_of c.in_ok-step-in-Event.field-0 in
    rw c.in-Event.is (record {
      steps = (event_of c.in-Event.event, answer) ∷ [];
      replies =
          (answer, refl, c.reply_to.ensures);
      played = c.in_ok-step-in-Event.ensures.goes_on;
    })
