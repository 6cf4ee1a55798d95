use Rattle.std.proofs.Common.{◌⊎◌, inl, inr, ⊎_elim, ℕ, ◌+◌, ◌<◌, ◌^◌, [], length, refl, sym, ◌∙◌, arith}
use Rattle.std.proofs.Common.{length-append}
use Rattle.clip_journal.specs.Kept.{Kept, compacted, says}
use Rattle.clip_journal.specs.Stands.{IsFront, Stands}
use Rattle.clip_journal.specs.Stop.{LeavesOnly}
use Rattle.clip_journal.proofs.Moments.{unmoved, moved_once}
use Rattle.clip_journal.proofs.Whole.{length-says}
use Rattle.clip_journal.proofs.Fronts.{whole_front}
use Rattle.clip_journal.proofs.journal.Journal.compact.Given.{Over}
use Rattle.clip_journal.proofs.journal.Journal.compact.Goals as goal
use Rattle.clip_journal.proofs.journal.Journal.compact.Goals.{After-put_in_place}

pub returns-then-not-self-clause-any_moment : goal.returns-then-not-self-clause-any_moment
returns-then-not-self-clause-any_moment g c =
    λ kept safe s. unmoved g.S.Store c.args.self.now.store _ (g.met.S.Store.only_now c.args.self.now.store)
    (λ left l. inl (s.stop left l))

pub returns-then-are_many-clause-any_moment : goal.returns-then-are_many-clause-any_moment
returns-then-are_many-clause-any_moment g c =
    λ kept safe s. unmoved g.S.Store c.args.self.now.store _ (g.met.S.Store.only_now c.args.self.now.store)
    (λ left l. inl (s.stop left l))

pub returns-in_err-bytes-clause-any_moment : goal.returns-in_err-bytes-clause-any_moment
returns-in_err-bytes-clause-any_moment g c =
    λ kept safe s. unmoved g.S.Store c.args.self.now.store _ (g.met.S.Store.only_now c.args.self.now.store)
    (λ left l. inl (s.stop left l))

-- A stop at each moment of the call leaves a front of what was kept, or what was to be put in its place.
any_moment : (g : Over) (c : After-put_in_place g) (kept : Kept) (safe : ℕ)
    → Stands g.S.Store.seen g.S.Store.may_leave c.args.self.now kept safe
    → LeavesOnly g.S.Store.moment g.S.Store.left_since c.args.self.now.store c.put_in_place.new.self (λ left.
    IsFront kept safe left ⊎ IsFront (compacted c.args.self.now.accepted (says c.args.live.now)) 0 left)
any_moment g c kept safe s =
    let self = c.args.self.now in
    let few = c.are_many.ensures.few c.if-are_many.false in
    let new = compacted self.accepted (says c.args.live.now) in
    let small : new.changes + length new.since < 2 ^ 63 = omega (arith, few.0) in
    let one = c.deref.ensures.value ∙ c.in_ok-bytes.ensures.bytes in
    moved_once g.S.Store self.store c.put_in_place.new.self _ (g.met.S.Store.only_now self.store)
    (λ left l. inl (s.stop left l)) c.put_in_place.ensures.time
    (λ left l. ⊎_elim (λ b. inl (s.stop left b)) (λ is. inr (whole_front new left small (is ∙ one)))
    (c.put_in_place.ensures.stop left l))

pub returns-in-Err-clause-any_moment : goal.returns-in-Err-clause-any_moment
returns-in-Err-clause-any_moment g c = any_moment g (goal.at.returns-in-Err-clause-any_moment g c).After-put_in_place

pub returns-clause-any_moment : goal.returns-clause-any_moment
returns-clause-any_moment g c = any_moment g (goal.at.returns-clause-any_moment g c).After-put_in_place

pub returns-clause-compacted : goal.returns-clause-compacted
returns-clause-compacted g c =
    let self = c.args.self.now in
    let few = c.are_many.ensures.few c.if-are_many.false in
    let new = compacted self.accepted (says c.args.live.now) in
    let small : new.changes + length new.since < 2 ^ 63 = omega (arith, few.0) in
    let one = c.deref.ensures.value ∙ c.in_ok-bytes.ensures.bytes in
    record {
      bytes = c.in_default.ensures.put ∙ one;
      counted = small;
      accepted = omega arith;
      live = sym (length-says c.args.live.now);
      place = omega (arith, length-append (says c.args.live.now) [], length-says c.args.live.now);
      link = c.in_ok-bytes.ensures.link;
      is_open = refl;
      enough = omega arith;
      stop = λ left l. whole_front new left small (c.in_default.ensures.durable left l ∙ one);
    }
