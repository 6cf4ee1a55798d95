-- What a reader that keeps ahead goes through at a read.
use Rattle.std.proofs.Common.{◌≡◌, ℕ, ◌≤◌, ◌<◌, List, [], ◌++◌, Bool, false, refl, sym}
use Rattle.std.proofs.Common.{ap, ◌∙◌, subst, arith, append-nil, true≢false}
use Rattle.std.specs.Prelude.{Option, None, Some, is_some}
use Rattle.std.specs.Io.KnownBytes.{Consumes, Keeps}
use Rattle.clip_stream.specs.Lines.{ended_lines}
use Rattle.clip_stream.proofs.Bytes.{consumes_kept, consumes_more}
use Rattle.clip_journal.specs.declared.journal_fault.JournalFault.{JournalFault}
use Rattle.clip_journal.specs.declared.journal_fault.JournalFault.TheVariants as fault
use Rattle.clip_journal.specs.declared.store.StoreFault.TheVariants as stored
use Rattle.clip_journal.specs.declared.store.Store as store
use Rattle.clip_ahead.specs.Ahead.{Begun, LeavesFronts}
use Rattle.clip_ahead.specs.Handing.{put_back, KeepsAhead, IsAhead}
use Rattle.clip_ahead.specs.declared.keeper.Keeper.{Keeper}
use Rattle.clip_ahead.proofs.Appending.{fronts_here}

-- ---- what is left

pub put_none : (left : Option (List ℕ)) → put_back [] left ≡ left
put_none None = refl
put_none (Some xs) = refl

pub put_kept : (old new : Option (List ℕ)) (bytes : List ℕ) → Consumes old new bytes → Keeps old (put_back bytes new)
put_kept None new bytes c = tt
put_kept (Some xs) None bytes c = absurd c
put_kept (Some xs) (Some ys) bytes c = sym c

abbrev fault_or : JournalFault → Option JournalFault → JournalFault
fault_or other None = other
fault_or other (Some why) = why

-- ---- what the code has tested

pub no_fault : (failed : Option JournalFault) → is_some failed ≡ false → failed ≡ None
no_fault None e = refl
no_fault (Some why) e = absurd (true≢false e)

module _ {S : Type 0} (calls : store.Ghosts S) (begun : Begun) where
  pub goes_on : (left : Option (List ℕ)) (held : List ℕ) (keeper : Keeper S) (met_end : Bool)
      (failed : Option JournalFault) → IsAhead calls begun left held keeper met_end failed → met_end ≡ false
      → failed ≡ None → IsAhead calls begun left held keeper false None
  goes_on left held keeper met_end failed a unended well =
      subst (λ m. IsAhead calls begun left held keeper m None) unended
      (subst (λ f. IsAhead calls begun left held keeper met_end f) well a)

  -- ---- a read that gave nothing

  given_on : (left new : Option (List ℕ)) (handed held : List ℕ) → Consumes begun.left (put_back held left) handed
      → held ≡ [] → Keeps left new → Consumes begun.left new handed
  given_on left new handed held given none kept =
      consumes_kept begun.left left new handed
      (subst (λ l. Consumes begun.left l handed) (ap (λ xs. put_back xs left) none ∙ put_none left) given) kept

  pub ahead_unread : (left new : Option (List ℕ)) (held now : List ℕ) (keeper : Keeper S)
      → IsAhead calls begun left held keeper false None → Keeps left new → now ≡ []
      → IsAhead calls begun new now keeper false None
  ahead_unread left new held now keeper a kept none = record {
    handed = a.handed;
    given = subst (λ l. Consumes begun.left l a.handed) (sym (ap (λ xs. put_back xs new) none ∙ put_none new))
        (given_on left new a.handed held a.given a.keeps.0 kept);
    keeps = (none, a.keeps.1);
    faults = a.faults;
    cause = λ e. cc;
  }

  -- or for which there was no memory
  pub ahead_refused : (left new : Option (List ℕ)) (held now : List ℕ) (keeper : Keeper S)
      → IsAhead calls begun left held keeper false None → Keeps left new → now ≡ []
      → IsAhead calls begun new now keeper false (Some fault.NoMemory)
  ahead_refused left new held now keeper a kept none = record {
    handed = a.handed;
    given = subst (λ l. Consumes begun.left l a.handed) (sym (ap (λ xs. put_back xs new) none ∙ put_none new))
        (given_on left new a.handed held a.given a.keeps.0 kept);
    keeps = (
      false,
      subst (λ xs. LeavesFronts calls begun (ended_lines a.handed) (ended_lines xs) keeper.journal.store)
          (sym (ap (λ xs. a.handed ++ xs) none ∙ append-nil a.handed))
          (fronts_here calls begun (ended_lines a.handed) (ended_lines a.handed) keeper.journal a.keeps.1.appended),
    );
    faults = a.faults;
    cause = λ e. cc;
  }

  -- ---- a read that gave bytes, or the end

  pub ahead_failed : (left new : Option (List ℕ)) (held bytes : List ℕ) (old keeper : Keeper S) (why : JournalFault)
      → (a : IsAhead calls begun left held old false None) → Consumes left new bytes
      → KeepsAhead calls begun new a.handed bytes keeper false (Some why)
      → calls.faults old.journal.store ≤ calls.faults keeper.journal.store
      → (why ≡ fault.Store stored.Failed → calls.faults old.journal.store < calls.faults keeper.journal.store)
      → IsAhead calls begun new bytes keeper false (Some why)
  ahead_failed left new held bytes old keeper why a consumed keeps faults cause = record {
    handed = a.handed;
    given = given_on left (put_back bytes new) a.handed held a.given a.keeps.0 (put_kept left new bytes consumed);
    keeps = keeps;
    faults = omega (arith, a.faults, faults);
    cause = λ e. omega (arith, a.faults, cause (ap (fault_or why) e));
  }

  pub ahead_more : (left new : Option (List ℕ)) (held bytes now : List ℕ) (old keeper : Keeper S) (met_end : Bool)
      → (a : IsAhead calls begun left held old false None) → Consumes left new bytes
      → KeepsAhead calls begun new (a.handed ++ bytes) [] keeper met_end None
      → calls.faults old.journal.store ≤ calls.faults keeper.journal.store → now ≡ []
      → IsAhead calls begun new now keeper met_end None
  ahead_more left new held bytes now old keeper met_end a consumed keeps faults none = record {
    handed = a.handed ++ bytes;
    given = subst (λ l. Consumes begun.left l (a.handed ++ bytes))
        (sym (ap (λ xs. put_back xs new) none ∙ put_none new))
        (consumes_more begun.left left new a.handed bytes
        (subst (λ l. Consumes begun.left l a.handed) (ap (λ xs. put_back xs left) a.keeps.0 ∙ put_none left) a.given)
        consumed);
    keeps = subst (λ xs. KeepsAhead calls begun new (a.handed ++ bytes) xs keeper met_end None) (sym none) keeps;
    faults = omega (arith, a.faults, faults);
    cause = λ e. cc;
  }
