use Rattle.std.proofs.Common.{ap, map}
use Rattle.std.proofs.lemmas.Result.{IfOk-weaker}
use Rattle.clip_registry.specs.RegistryState.{RegistryState}
use Rattle.clip_front.specs.Outcome.{names_in, OfKept}
use Rattle.clip_journal.specs.Kept.{says}
use Rattle.clip_keeping.specs.Live.{AreLive}
use Rattle.clip_keeping.proofs.Living.{live_of_kept}
use Rattle.clip_keeping.proofs.live.live_lines.Goals as goal

pub returns : goal.returns
returns g c =
    let names = names_in (g.A.Audience.hearers c.args.audience.now) in
    IfOk-weaker c.lines_of.result _
    (λ lines. OfKept names (says c.args.kept.items) (λ begins. AreLive begins (says lines.items)))
    (λ lines are. live_of_kept names (says c.args.kept.items) c.new-registry.result.registrar.history
    c.take_kept.new.registry.registrar c.in_ok-view.view (map (λ e. e.now) c.in_ok-entries.entries.items)
    (says lines.items) (ap (λ (s : RegistryState). s.history) c.new-registry.ensures.registrar)
    c.in_ok-take_kept.ensures c.in_ok-view.ensures c.live_entries.ensures.whole c.in_ok-entries.ensures.live are)
    (rw c.deref.ensures.value at c.lines_of.ensures)
