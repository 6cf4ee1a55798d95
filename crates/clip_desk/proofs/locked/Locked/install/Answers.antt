use Rattle.std.proofs.Common.{rules, ◌≡◌, ◌∙◌, Ok, ap, filter, subst, sym}
use Rattle.clip_indexed.specs.Segment.{all_entries}
use Rattle.clip_registry.specs.RegistryState.{RegistryState}
use Rattle.clip_registry.specs.Merging.{IsStale, Merge}
use Rattle.clip_desk.specs.Purges.{IsPurgedAt}
use Rattle.clip_desk.proofs.Purges.{purged_installed}
use Rattle.clip_desk.proofs.locked.Locked.install.Goals as goal

pub returns-in-Stale-clause-stale : goal.returns-in-Stale-clause-stale
returns-in-Stale-clause-stale g c e =
    subst (λ (s : RegistryState). IsStale s c.args.merged) (c.in_ok-next.ensures
    ∙ ap (λ v. v.registry) c.self.view_is) (c.in_ok-install.ensures.stale (ap Ok c.in-Stale.is))

pub put-requires-clause-purged : goal.put-requires-clause-purged
put-requires-clause-purged g c =
    let shown = c.self.inside.writer.desk.shown.value in
    let was : IsPurgedAt c.in_ok-next.next shown.purged_at =
    subst (λ (s : RegistryState). IsPurgedAt s shown.purged_at) (sym c.in_ok-next.ensures)
    c.self.invariant.0.purged in
    let some : c.args.merged.entries
    ≡ filter (λ r. c.merged.invariant.is r.seq) (all_entries c.args.merged.sources) =
    subst (λ (m : Merge). m.entries ≡ filter (λ r. c.merged.invariant.is r.seq) (all_entries m.sources))
    c.merged.view_is c.merged.invariant.picked in
    let purged : IsPurgedAt c.install.new.self shown.purged_at =
    purged_installed c.in_ok-next.next c.install.new.self c.args.merged (λ r. c.merged.invariant.is r.seq)
    shown.purged_at (c.in_ok-install.ensures.done (ap Ok c.in-Done.is)) some was in
    let kept = ap (λ p. p.purged_at) (c.behind-self.view_is ∙ c.published.ensures) in
    subst (IsPurgedAt c.install.new.self) (sym kept) purged

-- proved by search alone: it stands here so that a wrong body is refused at once
pub returns-in_ok-put-in-Done-clause-done : goal.returns-in_ok-put-in-Done-clause-done
returns-in_ok-put-in-Done-clause-done g c = search rules
