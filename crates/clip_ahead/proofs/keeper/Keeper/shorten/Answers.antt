use Rattle.std.proofs.Common.{ℕ, ◌++◌, refl, sym, ap, ◌∙◌, subst, Ok}
use Rattle.clip_journal.specs.Kept.{Kept, HasDigestOf, says}
use Rattle.clip_journal.specs.Stands.{Stands}
use Rattle.clip_ahead.proofs.Stages.{anew_same, anew_undone, anew_done, anew_broken}
use Rattle.clip_ahead.proofs.keeper.Keeper.shorten.Given.{Over}
use Rattle.clip_ahead.proofs.keeper.Keeper.shorten.Goals as goal
use Rattle.clip_ahead.proofs.keeper.Keeper.shorten.Goals.{After-write_anew}

-- The lines that are written may stand for all that was read back.
stand_for_all : (g : Over) (c : After-write_anew g) (kept : Kept) (safe : ℕ)
    → Stands g.S.Store.seen g.S.Store.may_leave c.args.self.now.journal kept safe
    → (read : Kept) × HasDigestOf read kept
    × g.N.RunName.stand_for (read.live ++ read.since) (says c.deref.result.now)
stand_for_all g c kept safe s =
    let found = c.in-Some.ensures kept safe s in (
      found.0,
      found.1,
      subst (λ ls. g.N.RunName.stand_for (found.0.live ++ found.0.since) (says ls)) (sym c.deref.ensures.value)
          (c.requires.named _ _ found.2),
    )

pub returns-in_default : goal.returns-in_default
returns-in_default g c =
    record {
      anew = λ begun left held a. anew_same g.N.RunName.stand_for g.S.Store begun left held c.args.self.now _ a
          refl refl;
    }

pub returns-in-Ok-Done : goal.returns-in-Ok-Done
returns-in-Ok-Done g c =
    let new = c.write_anew.new.journal in
    let shorter = stand_for_all g (goal.at.returns-in-Ok-Done g c).After-write_anew in
    let done = c.write_anew.ensures.done (c.in-Ok-Done.is ∙ ap Ok c.in-Ok-Done.field-0-is) in
    let time = c.write_anew.ensures.time in
    record {
      anew = λ begun left held a. anew_done g.N.RunName.stand_for g.S.Store begun left held c.args.self.now _
          (says c.deref.result.now) a shorter done time (g.met.S.Store.counts_now new.store)
          (g.met.S.Store.only_now new.store) c.write_anew.ensures.faults refl;
    }

pub returns-in-Ok-Undone : goal.returns-in-Ok-Undone
returns-in-Ok-Undone g c =
    let new = c.write_anew.new.journal in
    let undone = c.write_anew.ensures.undone (c.in-Ok-Undone.is ∙ ap Ok c.in-Ok-Undone.field-0-is) in
    let time = c.write_anew.ensures.time in
    record {
      anew = λ begun left held a. anew_undone g.N.RunName.stand_for g.S.Store begun left held c.args.self.now _ a
          undone time (g.met.S.Store.counts_now new.store) c.write_anew.ensures.faults refl;
    }

pub returns : goal.returns
returns g c =
    let new = c.write_anew.new.journal in
    let shorter = stand_for_all g (goal.at.returns g c).After-write_anew in
    let any_moment = c.write_anew.ensures.any_moment in
    let time = c.write_anew.ensures.time in
    record {
      anew = λ begun left held a. anew_broken g.N.RunName.stand_for g.S.Store begun left held c.args.self.now
          (record c.args.self.now { journal = new }) (says c.deref.result.now) c.in-Err.fault a shorter any_moment
          time (g.met.S.Store.counts_now new.store) c.in-Err.ensures.cause;
    }
