use Rattle.std.proofs.Common.{◌≡◌, ◌⊎◌, ◌-◌, inl, inr, ⊎_elim, List, ℕ, length, take, sym, ap, ◌∙◌, subst, arith}
use Rattle.std.proofs.Common.{length-append}
use Rattle.std.proofs.lemmas.Result.{err_from_is_err_and}
use Rattle.clip_journal.specs.Kept.{Reads, bytes_of}
use Rattle.clip_journal.specs.Parts.{IsBroken}
use Rattle.clip_journal.specs.Contents.{kept_of, torn_of}
use Rattle.clip_journal.specs.Stands.{IsWholeOf}
use Rattle.clip_journal.specs.Stop.{LeavesOnly}
use Rattle.clip_journal.specs.declared.journal_fault.OpenFault.TheVariants as opening
use Rattle.clip_journal.proofs.Moments.{moved, moved_once}
use Rattle.clip_journal.proofs.Whole.{cut_front}
use Rattle.clip_journal.proofs.opening.open.Given.{Over}
use Rattle.clip_journal.proofs.opening.open.Goals as goal
use Rattle.clip_journal.proofs.opening.open.Goals.{After-read, After-settle}

pub overflow_sub-whole : goal.overflow_sub-whole
overflow_sub-whole g c =
    let r = c.in_ok-found.ensures.found in
    omega (
      arith,
      ap length r.parts,
      length-append (bytes_of (kept_of c.in_ok-found.found)) (torn_of c.in_ok-found.found),
      ap length c.torn.ensures,
      ap length c.deref.ensures.value,
    )

-- A stop at each moment of the read leaves what it might have left before.
moment_of_read : (g : Over) (c : After-read g)
    → LeavesOnly g.S.Store.moment g.S.Store.left_since c.args.store.now c.read.new.self (λ left.
    g.S.Store.may_leave c.args.store.now left ⊎ IsWholeOf (g.S.Store.seen c.args.store.now) left)
moment_of_read g c =
    moved_once g.S.Store c.args.store.now c.read.new.self _ (g.met.S.Store.only_now c.args.store.now) (λ left l. inl l)
    c.read.ensures.time (λ left l. inl (c.read.ensures.stop left l))

pub returns-in_err-bytes-clause-any_moment : goal.returns-in_err-bytes-clause-any_moment
returns-in_err-bytes-clause-any_moment g c =
    moment_of_read g (goal.at.returns-in_err-bytes-clause-any_moment g c).After-read

pub returns-in_err-found-clause-any_moment : goal.returns-in_err-found-clause-any_moment
returns-in_err-found-clause-any_moment g c =
    moment_of_read g (goal.at.returns-in_err-found-clause-any_moment g c).After-read

pub returns-in_err-found-clause-broken : goal.returns-in_err-found-clause-broken
returns-in_err-found-clause-broken g c =
    let p = err_from_is_err_and c.from_residual-in_err-found.result c.from_residual-in_err-found.ensures.1 in
    let told : p.0 ≡ opening.Read c.in_err-found.field-0.0 = p.2 in
    λ fault e.
    let same : c.in_err-found.field-0.0 ≡ fault = cc in
    subst (λ (b : List ℕ). IsBroken b fault) (c.deref.ensures.value ∙ c.in_ok-bytes.ensures.bytes)
    (subst (IsBroken c.deref.result.now) same c.in_err-found.ensures.broken)

-- All but what is torn is what is kept.
whole_is : (g : Over) (c : After-settle g)
    → take (c.len.result - length c.torn.result.now) c.deref-2.result.now ≡ bytes_of (kept_of c.in_ok-found.found)
whole_is g c =
    let kept = kept_of c.in_ok-found.found in
    let parts = c.deref-2.ensures.value ∙ (sym c.deref.ensures.value ∙ c.in_ok-found.ensures.found.parts) in
    cut_front c.deref-2.result.now (bytes_of kept) (torn_of c.in_ok-found.found) _ parts
    (omega (arith, ap length c.torn.ensures, ap length c.deref-2.ensures.value))

-- What was found is read from what the store had.
found : (g : Over) (c : After-settle g)
    → Reads (g.S.Store.seen c.args.store.now) (kept_of c.in_ok-found.found) (torn_of c.in_ok-found.found)
found g c =
    subst (λ (b : List ℕ). Reads b (kept_of c.in_ok-found.found) (torn_of c.in_ok-found.found))
    (c.deref.ensures.value ∙ c.in_ok-bytes.ensures.bytes) c.in_ok-found.ensures.found

-- A stop at each moment leaves what it might have left before, or all that was found.
any_moment : (g : Over) (c : After-settle g)
    → LeavesOnly g.S.Store.moment g.S.Store.left_since c.args.store.now c.read.new.self (λ left.
    g.S.Store.may_leave c.args.store.now left ⊎ IsWholeOf (g.S.Store.seen c.args.store.now) left)
    → LeavesOnly g.S.Store.moment g.S.Store.left_since c.args.store.now c.settle.new.store (λ left.
    g.S.Store.may_leave c.args.store.now left ⊎ IsWholeOf (g.S.Store.seen c.args.store.now) left)
any_moment g c read =
    moved g.S.Store c.args.store.now c.read.new.self c.settle.new.store _ read c.settle.ensures.time
    (λ left l. ⊎_elim (λ b. inl (c.read.ensures.stop left b))
    (λ is. inr (kept_of c.in_ok-found.found, torn_of c.in_ok-found.found, found g c, is ∙ whole_is g c))
    (c.settle.ensures.stop left l))

pub returns-in_err-settle-clause-any_moment : goal.returns-in_err-settle-clause-any_moment
returns-in_err-settle-clause-any_moment g c =
    let at = goal.at.returns-in_err-settle-clause-any_moment g c in
    any_moment g at.After-settle (moment_of_read g at.After-read)

pub returns-clause-any_moment : goal.returns-clause-any_moment
returns-clause-any_moment g c =
    let at = goal.at.returns-clause-any_moment g c in
    any_moment g at.After-settle (moment_of_read g at.After-read)

pub returns-clause-found : goal.returns-clause-found
returns-clause-found g c = found g (goal.at.returns-clause-found g c).After-settle

pub returns-clause-whole : goal.returns-clause-whole
returns-clause-whole g c =
    c.in_ok-settle.ensures.whole
    (c.deref-2.ensures.value ∙ (c.in_ok-bytes.ensures.bytes ∙ sym c.read.ensures.seen))
    ∙ whole_is g (goal.at.returns-clause-whole g c).After-settle

pub returns-clause-durable : goal.returns-clause-durable
returns-clause-durable g c = c.in_ok-settle.ensures.durable
