use Rattle.std.proofs.Common.{ap, subst}
use Rattle.clip_registry.specs.Price.{HavePaid}
use Rattle.clip_registry.specs.RegistryState.{RegistryState}
use Rattle.clip_desk.proofs.locked.Locked.is_merge_due.Goals as goal

pub returns : goal.returns
returns g c =
    subst (λ (s : RegistryState). HavePaid c.args.payment.now c.is_merge_due.new.payment s.segments c.args.matched
    c.is_merge_due.result)
    (ap (λ s. s.registry) c.self.view_is) c.is_merge_due.ensures
