use Rattle.std.proofs.Common.{sym, subst}
use Rattle.clip_ahead.specs.Handing.{WasAhead}
use Rattle.clip_ahead.proofs.Stages.{was_ahead_anew}
use Rattle.clip_ahead.proofs.kept_source.KeptSource.into_parts.Goals as goal

pub returns-clause-was_ahead : goal.returns-clause-was_ahead
returns-clause-was_ahead g c =
    let s = c.self.inside in
    let left = g.R.Source.left s.reader in
    let stand_for = g.N.RunName.stand_for in
    let begun = g.N.RunName.begun in
    subst (λ j. WasAhead stand_for g.S.Store begun left s.held.items s.met_end s.fault j) (sym c.into_journal.ensures)
    (was_ahead_anew stand_for g.S.Store begun left s.held.items s.keeper s.met_end s.fault c.self.invariant.0)
