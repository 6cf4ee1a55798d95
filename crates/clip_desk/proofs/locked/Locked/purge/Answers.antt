use Rattle.std.proofs.Common.{rules, ◌≡◌, ◌∙◌, length, ap, sym, subst}
use Rattle.clip_registry.specs.Merging.{purged}
use Rattle.clip_registry.specs.RegistryState.{RegistryState}
use Rattle.clip_desk.specs.Purges.{IsPurgedAt}
use Rattle.clip_desk.proofs.Purges.{purged_here}
use Rattle.clip_desk.proofs.locked.Locked.purge.Goals as goal

-- proved by search alone: it stands here so that a wrong body is refused at once
pub put-requires-clause-same : goal.put-requires-clause-same
put-requires-clause-same g c = search rules

pub put-requires-clause-purged : goal.put-requires-clause-purged
put-requires-clause-purged g c =
    let s = c.self.inside in
    let is : c.purge.new.self ≡ purged s.registrar = c.in_ok-purge.ensures.purged ∙ ap purged c.in_ok-next.ensures in
    let count : length s.registrar.history ≡ s.seen_history.count = ap length (sym c.self.invariant.0.log)
    ∙ sym s.seen_history.counted in
    subst (IsPurgedAt c.purge.new.self) count
    (subst (λ (state : RegistryState). IsPurgedAt state (length s.registrar.history)) (sym is)
    (purged_here s.registrar))

pub returns-clause-told : goal.returns-clause-told
returns-clause-told g c = search rules
