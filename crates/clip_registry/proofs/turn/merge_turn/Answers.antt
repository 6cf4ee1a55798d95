use Rattle.std.proofs.Common.{ap, Ok, IfSome, subst}
use Rattle.clip_registry.specs.Merging.{IsStale, IsTurnBegun}
use Rattle.clip_registry.proofs.Late.{never_stale}
use Rattle.clip_registry.proofs.turn.merge_turn.Goals as goal

pub returns-clause-never_stale : goal.returns-clause-never_stale
returns-clause-never_stale g c _ =
    let begun = subst (λ job. IfSome job (IsTurnBegun c.args.to_one c.args.registrar.now)) c.in-Some.is
    c.in_ok-job.ensures.begun in
    never_stale c.args.to_one c.args.registrar.now c.in-Some.job c.in_ok-job.ensures.whole begun
    (subst (IsStale c.args.registrar.now) c.in_ok-merged.ensures (c.in_ok-install.ensures.stale (ap Ok c.in-Stale.is)))

pub returns-in-None-clause-nothing : goal.returns-in-None-clause-nothing
returns-in-None-clause-nothing g c = λ is. c.in_ok-job.ensures.nothing (ap Ok c.in-None.is)
