use Rattle.std.proofs.Common.{◌∙◌, ap, length, arith}
use Rattle.clip_run.specs.Alone.{history_alone}
use Rattle.clip_run.proofs.OnlyCaller.{alone_long}
use Rattle.clip_run.proofs.caller.CallerRegistry.purge_dead.Goals as goal

pub returns-clause-purged : goal.returns-clause-purged
returns-clause-purged g c =
    let same = ap (λ s. history_alone s.mine) c.purge.ensures.seat ∙ ap (λ c. c.history) c.self.view_is in
    let long = ap (λ c. length c.history) c.self.view_is in
    (same, omega (arith, long, alone_long c.self.inside.seat.mine, c.in-Ok.ensures.purged.1))

pub returns-clause-same : goal.returns-clause-same
returns-clause-same g c =
    ap (λ s. history_alone s.mine) c.purge.ensures.seat ∙ ap (λ c. c.history) c.self.view_is
