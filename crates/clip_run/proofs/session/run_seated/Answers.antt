use Rattle.std.proofs.Common.{map, subst, ap, ◌∙◌}
use Rattle.clip_front.specs.Outcome.{Follows, names_in}
use Rattle.clip_run.specs.Alone.{history_alone}
use Rattle.clip_run.proofs.Outcomes.{ran_again_none, refused_is}
use Rattle.clip_run.proofs.session.run_seated.Goals as goal

pub returns-in_err-take_kept : goal.returns-in_err-take_kept
returns-in_err-take_kept g c =
    ran_again_none (map (λ line. line.items) c.args.job.beginning.kept.items) c.args.job.beginning.settings _
    c.from_residual.result (refused_is c.from_residual.result c.from_residual.ensures.1) c.requires.fresh.unread

pub run_crew-requires-clause-begins : goal.run_crew-requires-clause-begins
run_crew-requires-clause-begins g c κs within =
    (ap (λ crew. crew.rows) c.new-crew.ensures, ap (λ crew. crew.owed) c.new-crew.ensures)

pub returns : goal.returns
returns g c =
    let names = names_in (g.A.Audience.hearers c.args.audience.now) in
    let kept = map (λ line. line.items) c.args.job.beginning.kept.items in
    let began = c.take_kept.new.registry.history in (
      began,
      subst (λ h. Follows names h kept began) (ap (λ c. c.history) c.new-caller.ensures
          ∙ ap history_alone c.requires.only.1)
          c.in_ok-take_kept.ensures,
      rw c.new-crew.ensures at c.run_crew.ensures,
    )
