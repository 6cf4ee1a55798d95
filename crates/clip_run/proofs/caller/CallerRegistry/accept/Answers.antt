use Rattle.std.proofs.Common.{◌∙◌, Some, ap, rules, subst, sym}
use Rattle.clip_model.specs.History.{History}
use Rattle.clip_standing.specs.Command.{command_of}
use Rattle.clip_front.specs.Steps.Registry.{IsJudged}
use Rattle.clip_run.specs.Alone.{history_alone}
use Rattle.clip_run.proofs.OnlyCaller.{accepted, refused}
use Rattle.clip_run.proofs.caller.CallerRegistry.accept.Goals as goal

pub returns-in-Ok : goal.returns-in-Ok
returns-in-Ok g c =
    let e = c.in-Ok.ensures in
    let i = c.self.invariant in
    let old : History = history_alone c.self.inside.seat.mine in
    let merged = c.merged_after.ensures.merged in
    record {
      judged = rw (← c.self.view_is)
          (subst (λ (h : History). IsJudged old h (command_of c.args.command) (Some c.merged_after.result))
          (sym (ap (λ v. v.history) merged))
          (accepted e.last.0 c.in-Ok.receipt.history c.self.inside.desk.now.callers c.self.inside.seat.caller
          c.self.inside.seat.mine c.commit.new.seat.mine (command_of c.args.command) c.merged_after.result e.last.1
          (c.merged_after.ensures.answer ∙ c.applied.ensures ∙ e.last.2) e.legal.0 e.legal.1 i.desk_alone i.first
          e.mine.0 e.mine.1));
      goes_on = ap (λ v. v.purged_at) merged ∙ ap (λ s. s.purged_at) c.commit.ensures.seat
          ∙ ap (λ c. c.purged_at) c.self.view_is;
    }

pub returns-in-Err-default-Full : goal.returns-in-Err-default-Full
returns-in-Err-default-Full g c =
    let e = c.in-Err-default-Full.ensures in
    let i = c.self.invariant in
    let full = e.full c.in-Err-default-Full.field-0-1-is in
    record {
      judged = rw (← c.self.view_is)
          (refused c.commit.new.seat.seen c.self.inside.desk.now.callers c.self.inside.seat.caller
          c.self.inside.seat.mine c.commit.new.seat.mine (command_of c.args.command) full.0 full.1 full.2
          i.desk_alone i.first full.3 e.stays);
      goes_on = ap (λ s. s.purged_at) c.commit.ensures.seat ∙ ap (λ c. c.purged_at) c.self.view_is;
    }

-- proved by search alone: it stands here so that a wrong body is refused at once
pub returns-in-Err-default-NoMemory : goal.returns-in-Err-default-NoMemory
returns-in-Err-default-NoMemory g c = search rules
