use Rattle.std.proofs.Common.{◌≡◌, List, [], ◌∷◌, ◌++◌, length, map, sym, ap, subst, ◌∙◌, arith, length-append}
use Rattle.std.specs.List.{zip}
use Rattle.clip_trace.specs.Event.{event_of, answer_of}
use Rattle.clip_trace.specs.Schedule.{Step, IsDue, stand}
use Rattle.clip_trace.proofs.Schedules.{one_more}
use Rattle.clip_trace.proofs.tracer.trace.Goals as goal

pub loop-event-preserved : goal.loop-event-preserved
loop-event-preserved c =
    let events = c.loop-event.yielded in
    let answers = c.loop-event.answers.items in
    let steps : List Step = zip (map event_of events) (map answer_of answers) in
    let more : zip (map event_of (events ++ c.in-Some.event ∷ [])) (map answer_of c.push.new.self.items)
    ≡ steps ++ (event_of c.in-Some.event, answer_of c.in_ok-step.field-0) ∷ [] =
    ap (λ given. zip (map event_of (events ++ c.in-Some.event ∷ [])) (map answer_of given)) c.in_ok-push.ensures.items
    ∙ one_more events answers c.in-Some.event c.in_ok-step.field-0 c.loop-event.invariant.each in
    let on = c.in_ok-step.ensures.goes_on steps c.loop-event.invariant.due c.loop-event.invariant.stands in
    record {
      each = let a = length-append answers (c.in_ok-step.field-0 ∷ []) in let b =
          length-append events (c.in-Some.event ∷ []) in let d = ap length c.in_ok-push.ensures.items in let e =
          c.loop-event.invariant.each in omega arith;
      due = subst IsDue (sym more) on.0;
      stands = ap stand more ∙ on.1;
    }
