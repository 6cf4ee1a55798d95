use Rattle.clip_ahead.proofs.anew.write_anew.Goals as goal

pub returns-clause-undone : goal.returns-clause-undone
returns-clause-undone g c =
    λ is kept safe s. c.in-Err.ensures.goes_on kept safe s (c.ends_it.ensures.goes_on c.if-ends_it.false)
