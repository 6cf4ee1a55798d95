use Rattle.std.proofs.Common.{◌≡◌, ◌⊎◌, inl, inr, ⊎_elim, [], sym, ◌∙◌}
use Rattle.clip_journal.specs.Kept.{bytes_of, compacted}
use Rattle.clip_journal.specs.Stop.{LeavesOnly}
use Rattle.clip_journal.proofs.Moments.{unmoved, moved_once}
use Rattle.clip_journal.proofs.opening.begin.Given.{Over}
use Rattle.clip_journal.proofs.opening.begin.Goals as goal
use Rattle.clip_journal.proofs.opening.begin.Goals.{After-put_in_place}

pub returns-in_err-bytes-clause-any_moment : goal.returns-in_err-bytes-clause-any_moment
returns-in_err-bytes-clause-any_moment g c =
    unmoved g.S.Store c.args.store.now _ (g.met.S.Store.only_now c.args.store.now) (λ left l. inl l)

-- A stop at each moment leaves what it might have left before, or a journal that keeps nothing.
any_moment : (g : Over) (c : After-put_in_place g)
    → LeavesOnly g.S.Store.moment g.S.Store.left_since c.args.store.now c.put_in_place.new.self (λ left.
    g.S.Store.may_leave c.args.store.now left ⊎ (left ≡ bytes_of (compacted 0 [])))
any_moment g c =
    let one = c.deref.ensures.value ∙ c.in_ok-bytes.ensures.bytes in
    moved_once g.S.Store c.args.store.now c.put_in_place.new.self _ (g.met.S.Store.only_now c.args.store.now)
    (λ left l. inl l) c.put_in_place.ensures.time
    (λ left l. ⊎_elim (λ b. inl b) (λ is. inr (is ∙ one)) (c.put_in_place.ensures.stop left l))

pub returns-in_err-put_in_place-clause-any_moment : goal.returns-in_err-put_in_place-clause-any_moment
returns-in_err-put_in_place-clause-any_moment g c =
    any_moment g (goal.at.returns-in_err-put_in_place-clause-any_moment g c).After-put_in_place

pub returns-clause-any_moment : goal.returns-clause-any_moment
returns-clause-any_moment g c = any_moment g (goal.at.returns-clause-any_moment g c).After-put_in_place

pub returns-clause-begun : goal.returns-clause-begun
returns-clause-begun g c =
    c.in_ok-put_in_place.ensures.put ∙ (c.deref.ensures.value ∙ c.in_ok-bytes.ensures.bytes)

pub returns-clause-durable : goal.returns-clause-durable
returns-clause-durable g c =
    λ left l. c.in_ok-put_in_place.ensures.durable left l ∙ sym c.in_ok-put_in_place.ensures.put
