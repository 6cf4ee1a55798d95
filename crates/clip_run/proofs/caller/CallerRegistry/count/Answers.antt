use Rattle.std.proofs.Common.{ap, ◌∙◌}
use Rattle.std.specs.FinMap as finite
use Rattle.clip_model.specs.History.{replay}
use Rattle.clip_run.proofs.caller.CallerRegistry.count.Goals as goal

pub returns-clause-counted : goal.returns-clause-counted
returns-clause-counted g c = c.count.ensures ∙ ap (λ h. finite.len (replay h)) c.in_ok-view.ensures.view
