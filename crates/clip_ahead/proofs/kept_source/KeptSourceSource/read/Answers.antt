use Rattle.std.proofs.Common.{◌≡◌, ◌<◌, ◌==◌, ◌++◌, [], length, Some, None, Err, false}
use Rattle.std.proofs.Common.{refl, sym, ap, ◌∙◌, subst, arith}
use Rattle.std.specs.Io.KnownBytes.{IsAtEnd}
use Rattle.clip_ahead.specs.Handing.{KeepsAhead}
use Rattle.clip_ahead.specs.Stages.{IsAheadAnew}
use Rattle.clip_ahead.proofs.Keeping.{is_some}
use Rattle.clip_ahead.proofs.Handing.{no_fault}
use Rattle.clip_ahead.proofs.Stages.{anew_goes_on, anew_unread, anew_refused, anew_failed, anew_more}
use Rattle.clip_ahead.proofs.kept_source.KeptSourceSource.read.Given.{Over}
use Rattle.clip_ahead.proofs.kept_source.KeptSourceSource.read.Goals as goal
use Rattle.clip_ahead.proofs.kept_source.KeptSourceSource.read.Goals.{After-shorten, After-read_some, After-take}

-- The reader was ahead as the journal was to be written anew.
was_ahead : (g : Over) (c : After-shorten g)
    → IsAheadAnew g.N.RunName.stand_for g.S.Store g.N.RunName.begun (g.R.Source.left c.self.inside.reader)
    c.self.inside.held.items c.self.inside.keeper false None
was_ahead g c =
    let s = c.self.inside in
    anew_goes_on g.N.RunName.stand_for g.S.Store g.N.RunName.begun (g.R.Source.left s.reader) s.held.items s.keeper
    s.met_end s.fault c.self.invariant.0 c.if-self.false
    (no_fault s.fault (sym c.is_some.ensures ∙ c.if-is_some.false))

-- Where the read gave no bytes, the reader is at its end.
at_end : (g : Over) (c : After-take g) → c.deref.result.now ≡ []
    → IsAtEnd (g.R.Source.left c.read_some.new.reader)
at_end g c none =
    let buffer : 0 < length c.args.buffer.now =
    is_some (length c.args.buffer.now) (length c.args.buffer.now) c.is_empty.result c.is_empty.ensures refl
    c.if-is_empty.false in
    c.in-Ok.ensures.ended (sym c.deref.ensures.value ∙ none) (omega (arith, buffer, c.min-room.ensures))

pub invariant_of-self-in-Err : goal.invariant_of-self-in-Err
invariant_of-self-in-Err g c =
    let s = c.self.inside in
    let left = g.R.Source.left s.reader in
    let was = was_ahead g (goal.at.invariant_of-self-in-Err g c).After-shorten in (
      (c.if-self.false, (c.in-Err.ensures.anew g.N.RunName.begun left s.held.items was).1),
      omega (arith, c.self.invariant.1),
      c.self.invariant.2,
    )

pub invariant_of-self-in-Err-Failed : goal.invariant_of-self-in-Err-Failed
invariant_of-self-in-Err-Failed g c =
    let at = goal.at.invariant_of-self-in-Err-Failed g c in
    let fault = c.self.inside.fault in
    let well = no_fault fault (sym c.is_some.ensures ∙ c.if-is_some.false) in
    let now = g.R.Source.left c.read_some.new.reader in
    let bytes = c.read_some.new.held.items in
    let ahead = c.in_default.ensures.anew g.N.RunName.begun _ _ (was_ahead g at.After-shorten) in
    let x = anew_unread g.N.RunName.stand_for g.S.Store g.N.RunName.begun _ now _ bytes c.shorten.new.self ahead
    c.in-Err-Failed.ensures.kept c.in-Err-Failed.ensures.none in
    let Ahead = IsAheadAnew g.N.RunName.stand_for g.S.Store g.N.RunName.begun now bytes c.shorten.new.self in (
      subst (λ m. Ahead m fault) (sym c.if-self.false) (subst (λ f. Ahead false f) (sym well) x),
      omega (arith, c.self.invariant.1, c.read_some.ensures.counted),
      c.self.invariant.2,
    )

pub invariant_of-self-in-Err-NoMemory : goal.invariant_of-self-in-Err-NoMemory
invariant_of-self-in-Err-NoMemory g c =
    let at = goal.at.invariant_of-self-in-Err-NoMemory g c in
    let now = g.R.Source.left c.read_some.new.reader in
    let bytes = c.read_some.new.held.items in
    let ahead = c.in_default.ensures.anew g.N.RunName.begun _ _ (was_ahead g at.After-shorten) in
    let x = anew_refused g.N.RunName.stand_for g.S.Store g.N.RunName.begun _ now _ bytes c.shorten.new.self ahead
    c.in-Err-NoMemory.ensures.kept c.in-Err-NoMemory.ensures.none in (
      (c.if-self.false, x.1),
      omega (arith, c.self.invariant.1, c.read_some.ensures.counted),
      c.self.invariant.2,
    )

pub invariant_of-self-in-Err-take : goal.invariant_of-self-in-Err-take
invariant_of-self-in-Err-take g c =
    let at = goal.at.invariant_of-self-in-Err-take g c in
    let now = g.R.Source.left c.read_some.new.reader in
    let why = c.in-Err-take.fault in
    let ahead = c.in_default.ensures.anew g.N.RunName.begun _ _ (was_ahead g at.After-shorten) in
    let x = anew_failed g.N.RunName.stand_for g.S.Store g.N.RunName.begun _ now _ c.read_some.new.held.items
    c.shorten.new.self c.take.new.self why ahead c.in-Ok.ensures.given
    (λ stage handed h. subst (λ xs. KeepsAhead g.S.Store stage now handed xs c.take.new.self false (Some why))
    c.deref.ensures.value (c.in-Err-take.ensures.keeps stage now handed h (at_end g at.After-take)))
    c.take.ensures.time c.in-Err-take.ensures.faults (λ e. c.in-Err-take.ensures.cause (ap Err e)) in (
      (c.if-self.false, x.1),
      omega (arith, c.self.invariant.1, c.read_some.ensures.counted),
      c.self.invariant.2,
    )

pub invariant_of-self-2 : goal.invariant_of-self-2
invariant_of-self-2 g c =
    let at = goal.at.invariant_of-self-2 g c in
    let well = no_fault c.self.inside.fault (sym c.is_some.ensures ∙ c.if-is_some.false) in
    let now = g.R.Source.left c.read_some.new.reader in
    let bytes = c.read_some.new.held.items in
    let keeper = c.take.new.self in
    let met = c.len-n.result == 0 in
    let ahead = c.in_default.ensures.anew g.N.RunName.begun _ _ (was_ahead g at.After-shorten) in
    let x = anew_more g.N.RunName.stand_for g.S.Store g.N.RunName.begun _ now _ bytes c.clear.new.self.items
    c.shorten.new.self keeper met ahead c.in-Ok.ensures.given
    (λ stage handed h. subst (λ n. KeepsAhead g.S.Store stage now (handed ++ bytes) [] keeper (n == 0) None)
    (sym (c.len-n.ensures ∙ c.read_some.new.held.ok.0))
    (subst (λ xs. KeepsAhead g.S.Store stage now (handed ++ xs) [] keeper (length xs == 0) None) c.deref.ensures.value
    (c.in_default-take.ensures.keeps stage now handed h (at_end g at.After-take))))
    c.take.ensures.time c.take.ensures.faults c.clear.ensures.items in
    let Ahead = IsAheadAnew g.N.RunName.stand_for g.S.Store g.N.RunName.begun now c.clear.new.self.items keeper met in (
      subst Ahead (sym well) x,
      omega (arith, c.self.invariant.1, c.read_some.ensures.counted),
      c.self.invariant.2,
    )
