-- What a stop leaves at the moments of one call.
use Rattle.std.proofs.Common.{⊎_elim, ℕ, List, arith}
use Rattle.clip_journal.specs.Stop.{Elapses, LeavesOnly}
use Rattle.clip_journal.specs.declared.store.Store as store

module _ {S : Type 0} (calls : store.Ghosts S) where
  -- no call
  pub unmoved : (s : S) (P : List ℕ → Type 0)
      → ((left : List ℕ) → calls.left_since s (calls.moment s) left → calls.may_leave s left)
      → ((left : List ℕ) → calls.may_leave s left → P left) → LeavesOnly calls.moment calls.left_since s s P
  unmoved s P only_now here = record { later = omega arith; each = λ left l. here left (only_now left l) }

  -- one call more
  pub moved : (old mid new : S) (P : List ℕ → Type 0) → LeavesOnly calls.moment calls.left_since old mid P
      → Elapses (calls.moment mid) (calls.moment new) (calls.left_since mid) (calls.left_since new)
      (calls.may_leave new)
      → ((left : List ℕ) → calls.may_leave new left → P left) → LeavesOnly calls.moment calls.left_since old new P
  moved old mid new P before time here = record {
    later = omega (arith, before.later, time.later);
    each = λ left l. ⊎_elim (before.each left) (here left) (time.nothing_else (calls.moment old) left before.later l);
  }

  -- just one call
  pub moved_once : (old new : S) (P : List ℕ → Type 0)
      → ((left : List ℕ) → calls.left_since old (calls.moment old) left → calls.may_leave old left)
      → ((left : List ℕ) → calls.may_leave old left → P left)
      → Elapses (calls.moment old) (calls.moment new) (calls.left_since old) (calls.left_since new)
      (calls.may_leave new)
      → ((left : List ℕ) → calls.may_leave new left → P left) → LeavesOnly calls.moment calls.left_since old new P
  moved_once old new P only_now before time here = moved old old new P (unmoved old P only_now before) time here
