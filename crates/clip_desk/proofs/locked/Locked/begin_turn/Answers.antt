use Rattle.std.proofs.Common.{◌≤◌, ap, length, sym, subst}
use Rattle.clip_registry.specs.Plan.{AreFew, IsRun}
use Rattle.clip_registry.specs.RegistryState.{RegistryState}
use Rattle.clip_desk.proofs.locked.Locked.begin_turn.Goals as goal

pub returns-clause-nothing : goal.returns-clause-nothing
returns-clause-nothing g c e first run =
    c.begin_turn.ensures.nothing e first
    (subst (λ (s : RegistryState). IsRun s.segments first) (ap (λ s. s.registry) (sym c.self.view_is)) run)

pub returns-clause-few : goal.returns-clause-few
returns-clause-few g c e =
    subst (λ (s : RegistryState). AreFew s.segments) (ap (λ s. s.registry) c.self.view_is) (c.begin_turn.ensures.few e)

pub returns-clause-one : goal.returns-clause-one
returns-clause-one g c e asked =
    subst (λ (s : RegistryState). length s.segments ≤ 1) (ap (λ s. s.registry) c.self.view_is)
    (c.begin_turn.ensures.one e asked)
