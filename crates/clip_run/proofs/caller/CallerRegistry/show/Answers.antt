use Rattle.std.proofs.Common.{ap, ◌∙◌}
use Rattle.std.proofs.lemmas.Result.{IfOk-weaker}
use Rattle.clip_front.specs.Steps.Registry.{text_under}
use Rattle.clip_run.proofs.caller.CallerRegistry.show.Goals as goal

pub returns-clause-shown : goal.returns-clause-shown
returns-clause-shown g c =
    IfOk-weaker c.copied_text.result _ _ (λ text is. is
    ∙ ap (λ h. text_under h c.args.id.now) c.in_ok-view.ensures.view) c.copied_text.ensures
