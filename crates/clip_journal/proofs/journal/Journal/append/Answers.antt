use Rattle.std.proofs.Common.{◌∷◌, ◌++◌, [], ℕ, List, length, refl, sym, ap, ap₂, ◌∙◌, ⊎_elim, inl, inr, arith}
use Rattle.std.proofs.Common.{length-append}
use Rattle.clip_journal.specs.Entries.{entry, link_after}
use Rattle.clip_journal.specs.Kept.{Kept, said_by, with_command}
use Rattle.clip_journal.specs.Stands.{IsFront, Stands}
use Rattle.clip_journal.specs.Stop.{LeavesOnly}
use Rattle.clip_journal.proofs.Moments.{unmoved, moved_once}
use Rattle.clip_journal.proofs.Fronts.{front_more, next_bytes, next_stop, said_more, link_more, IsNext}
use Rattle.clip_journal.proofs.journal.Journal.append.Given.{Over}
use Rattle.clip_journal.proofs.journal.Journal.append.Goals as goal
use Rattle.clip_journal.proofs.journal.Journal.append.Goals.{After-append}

pub returns-then-not-self-clause-any_moment : goal.returns-then-not-self-clause-any_moment
returns-then-not-self-clause-any_moment g c =
    λ kept safe s. unmoved g.S.Store c.args.self.now.store _ (g.met.S.Store.only_now c.args.self.now.store)
    (λ left l. front_more kept c.args.said.now safe left (s.stop left l))

pub returns-then-are_many-clause-any_moment : goal.returns-then-are_many-clause-any_moment
returns-then-are_many-clause-any_moment g c =
    λ kept safe s. unmoved g.S.Store c.args.self.now.store _ (g.met.S.Store.only_now c.args.self.now.store)
    (λ left l. front_more kept c.args.said.now safe left (s.stop left l))

pub returns-in_err-next-clause-any_moment : goal.returns-in_err-next-clause-any_moment
returns-in_err-next-clause-any_moment g c =
    λ kept safe s. unmoved g.S.Store c.args.self.now.store _ (g.met.S.Store.only_now c.args.self.now.store)
    (λ left l. front_more kept c.args.said.now safe left (s.stop left l))

-- What was given to the store is the entry that comes next.
is_next : (g : Over) (c : After-append g) (kept : Kept) (safe : ℕ)
    → Stands g.S.Store.seen g.S.Store.may_leave c.args.self.now kept safe
    → IsNext kept c.args.self.now.link c.args.self.now.place c.args.said.now (g.S.Store.seen c.args.self.now.store)
    c.deref.result.now
is_next g c kept safe s =
    let self = c.args.self.now in
    record {
      before = s.bytes;
      link = s.link;
      place = s.place;
      written = c.deref.ensures.value ∙ (c.in_ok-next.ensures.bytes
          ∙ ap (λ (x : List ℕ). x ++ entry self.link self.place c.args.said.now) c.new-bytes.ensures.items);
    }

-- A stop after the store's call leaves a front of what is kept with the command.
leaves_front : (g : Over) (c : After-append g) (kept : Kept) (safe : ℕ)
    → Stands g.S.Store.seen g.S.Store.may_leave c.args.self.now kept safe → (left : List ℕ)
    → g.S.Store.may_leave c.append.new.self left → IsFront (with_command kept c.args.said.now) safe left
leaves_front g c kept safe s left l =
    let self = c.args.self.now in
    let few = c.are_many.ensures.few c.if-are_many.false in
    next_stop kept self.link self.place c.args.said.now (g.S.Store.seen self.store) c.deref.result.now safe left
    (is_next g c kept safe s) c.put_entry.ensures.small (omega (arith, s.accepted, few.0)) s.enough
    (⊎_elim (λ b. inl (s.stop left b)) (λ h. inr h) (c.append.ensures.stop left l))

-- A stop at each moment leaves a front of what is kept with the command.
any_moment : (g : Over) (c : After-append g) (kept : Kept) (safe : ℕ)
    → Stands g.S.Store.seen g.S.Store.may_leave c.args.self.now kept safe
    → LeavesOnly g.S.Store.moment g.S.Store.left_since c.args.self.now.store c.append.new.self
    (IsFront (with_command kept c.args.said.now) safe)
any_moment g c kept safe s =
    let store = c.args.self.now.store in
    moved_once g.S.Store store c.append.new.self _ (g.met.S.Store.only_now store)
    (λ left l. front_more kept c.args.said.now safe left (s.stop left l)) c.append.ensures.time
    (leaves_front g c kept safe s)

pub returns-in_err-append-clause-any_moment : goal.returns-in_err-append-clause-any_moment
returns-in_err-append-clause-any_moment g c =
    any_moment g (goal.at.returns-in_err-append-clause-any_moment g c).After-append

pub returns-clause-any_moment : goal.returns-clause-any_moment
returns-clause-any_moment g c = any_moment g (goal.at.returns-clause-any_moment g c).After-append

pub returns-clause-appended : goal.returns-clause-appended
returns-clause-appended g c =
    let self = c.args.self.now in
    let said = c.args.said.now in
    let few = c.are_many.ensures.few c.if-are_many.false in
    let after = (goal.at.returns-clause-appended g c).After-append in
    λ kept safe s.
    let one_more = length-append kept.since (said ∷ []) in
    record {
      bytes = next_bytes kept self.link self.place said (g.S.Store.seen self.store) c.deref.result.now _
          (is_next g after kept safe s) c.in_ok-append.ensures.added;
      counted = omega (arith, s.accepted, few.0, one_more);
      accepted = omega (arith, s.accepted, one_more);
      live = s.live;
      place = omega (arith, s.place, ap length (said_more kept said), length-append (said_by kept) (said ∷ []));
      link = c.in_ok-next.ensures.link ∙ ap₂ (λ (l : List ℕ) (n : ℕ). link_after l n said) s.link s.place
          ∙ sym (link_more kept said);
      is_open = refl;
      enough = omega (arith, s.enough, one_more);
      stop = leaves_front g after kept safe s;
    }
