-- Time that goes on over calls of a store.
use Rattle.std.proofs.Common.{ℕ, ◌≤◌, List, arith, ⊎_elim, inl, inr}
use Rattle.clip_journal.specs.Stop.{Elapses}
use Rattle.clip_journal.specs.declared.store.Store as store
use Rattle.clip_ahead.specs.Keeping.{TimeGoesOn}

module _ {S : Type 0} (calls : store.Ghosts S) where
  pub time_none : (s : S) → TimeGoesOn calls s s
  time_none s = record {
    later = omega arith;
    nothing_else = λ t u left a b l. inl l;
    keeps = λ t left a l. l;
  }

  -- over one call
  pub time_call : (old new : S) → Elapses (calls.moment old) (calls.moment new) (calls.left_since old)
      (calls.left_since new) (calls.may_leave new)
      → ((t : ℕ) (left : List ℕ) → t ≤ calls.moment new → calls.may_leave new left → calls.left_since new t left)
      → TimeGoesOn calls old new
  time_call old new e counts = record {
    later = e.later;
    nothing_else = λ t u left a b l. ⊎_elim (λ p. inl p) (λ h. inr (counts u left (omega (arith, b, e.later)) h))
        (e.nothing_else t left a l);
    keeps = e.keeps;
  }

  -- over more
  pub time_on : (a b c : S) → TimeGoesOn calls a b → TimeGoesOn calls b c → TimeGoesOn calls a c
  time_on a b c x y = record {
    later = omega (arith, x.later, y.later);
    nothing_else = λ t u left p q l. ⊎_elim (λ h. ⊎_elim (λ i. inl i)
        (λ i. inr (y.keeps u left (omega (arith, q, x.later)) i)) (x.nothing_else t u left p q h)) (λ h. inr h)
        (y.nothing_else t u left (omega (arith, p, x.later)) (omega (arith, q, x.later)) l);
    keeps = λ t left p l. y.keeps t left (omega (arith, p, x.later)) (x.keeps t left p l);
  }
