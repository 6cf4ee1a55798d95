-- What a run says of its reader, by what that keeps ahead.
use Rattle.std.proofs.Common.{◌≡◌, inl, inr, ⊎_elim, ℕ, ◌≤◌, ◌||◌, List, [], length, Bool, true, false, refl, sym}
use Rattle.std.proofs.Common.{ap, ◌∙◌, subst, arith, append-nil, true≢false}
use Rattle.std.specs.Prelude.{Option, None, Some, is_some, Result, Ok, Err, IfOk, OnOk, OnErr}
use Rattle.std.specs.Io.KnownBytes.{IsAtEnd}
use Rattle.clip_model.specs.History.{History}
use Rattle.clip_stream.specs.Lines.{lines_of, lines_read, OfInput, OfLinesRead}
use Rattle.clip_stream.specs.declared.device.Source as source
use Rattle.clip_stream.specs.declared.fault.RunFault.{RunFault}
use Rattle.clip_stream.specs.declared.fault.RunFault.TheVariants as run
use Rattle.clip_stream.proofs.LinesRead.{of_input}
use Rattle.clip_journal.specs.Kept.{Kept}
use Rattle.clip_journal.specs.Contents.{kept_of}
use Rattle.clip_journal.specs.Stands.{Stands, IsFront}
use Rattle.clip_journal.specs.declared.journal.Journal.{Journal}
use Rattle.clip_journal.specs.declared.journal_fault.JournalFault.{JournalFault}
use Rattle.clip_journal.specs.declared.store.Store as store
use Rattle.clip_front.specs.Devices.{Devices, IsHonest}
use Rattle.clip_front.specs.Outcome.{OfKept}
use Rattle.clip_ahead.specs.Ahead.{Begun, Appended}
use Rattle.clip_ahead.specs.Anew.{HasKept}
use Rattle.clip_ahead.specs.Changes.{with_changes}
use Rattle.clip_ahead.specs.Handing.{put_back, WasAhead}
use Rattle.clip_ahead.proofs.Handing.{put_none, no_fault}
use Rattle.clip_kept.specs.Opened.{begun_with}
use Rattle.clip_kept.specs.Whose.{whose, FailsToRead, IsHonestKept}
use Rattle.clip_kept.specs.declared.fault.KeptFault.{KeptFault}
use Rattle.clip_kept.specs.declared.fault.KeptFault.TheVariants as kept
use Rattle.clip_kept.specs.declared.opened.Opened.{Opened}

-- ---- the beginning

pub begins_appended : {R S : Type 0} (reads : source.Ghosts R) (calls : store.Ghosts S) (reader : R)
    (opened : Opened S)
    → ((left : List ℕ) → calls.left_since opened.journal.store (calls.moment opened.journal.store) left
    → calls.may_leave opened.journal.store left)
    → Stands calls.seen calls.may_leave opened.journal (kept_of opened.found) (length (kept_of opened.found).since)
    → Appended calls (begun_with reads calls reader opened) [] [] opened.journal
begins_appended reads calls reader opened only_now stands =
    let begun = kept_of opened.found in
    let same : begun ≡ with_changes begun [] =
    ap (λ (cs : List (List ℕ)). record begun { since = cs }) (sym (append-nil begun.since)) in
    record {
      stands = subst (λ (k : Kept). Stands calls.seen calls.may_leave opened.journal k (length k.since)) same stands;
      later = omega arith;
      since = λ left l. subst (λ (k : Kept). IsFront k (length begun.since) left) same
          (stands.stop left (only_now left l));
    }

-- ---- how it ended

pub ok_whose : {T : Type 0} (P : T → Type 0) (r : Result T RunFault) (failed : Option JournalFault) → IfOk r P
    → IfOk (whose r failed) P
ok_whose P (Ok x) failed p = p
ok_whose P (Err run.NoMemory) failed p = tt
ok_whose P (Err run.Write) failed p = tt
ok_whose P (Err run.Read) failed p = tt

pub err_whose : {T : Type 0} (P : Type 0) (r : Result T RunFault) (failed : Option JournalFault) → OnErr r P
    → OnErr (whose r failed) P
err_whose P (Ok x) failed p = tt
err_whose P (Err run.NoMemory) failed p = p
err_whose P (Err run.Write) failed p = p
err_whose P (Err run.Read) failed p = p

-- by the kept lines and the bytes that the run was given
pub outcome_of : {T : Type 0} (P : T → History → List ℕ → Type 0) (names kept lines : List (List ℕ))
    (left given : Option (List ℕ)) (r : Result T RunFault) (failed : Option JournalFault) (answer : Result T KeptFault)
    → answer ≡ whose r failed → kept ≡ lines → left ≡ given
    → IfOk r (λ t. OfKept names kept (λ h. OfInput left (P t h)))
    → IfOk answer (λ t. OfKept names lines (λ h. OfInput given (P t h)))
outcome_of P names kept lines left given r failed answer is same told p =
    subst (λ a. IfOk a (λ t. OfKept names lines (λ h. OfInput given (P t h)))) (sym is)
    (ok_whose (λ t. OfKept names lines (λ h. OfInput given (P t h))) r failed
    (subst (λ ls. IfOk r (λ t. OfKept names ls (λ h. OfInput given (P t h)))) same
    (subst (λ l. IfOk r (λ t. OfKept names kept (λ h. OfInput l (P t h)))) told p)))

pub front_of : {T : Type 0} (P : History → List (List ℕ) → Type 0) (names kept lines : List (List ℕ))
    (left given new now : Option (List ℕ)) (met_end ended : Bool) (r : Result T RunFault)
    (failed : Option JournalFault) (answer : Result T KeptFault) → answer ≡ whose r failed → kept ≡ lines
    → left ≡ given → new ≡ now → met_end ≡ ended
    → OnErr r (OfKept names kept (λ h. OfLinesRead left new met_end (P h)))
    → OnErr answer (OfKept names lines (λ h. OfLinesRead given now ended (P h)))
front_of P names kept lines left given new now met_end ended r failed answer is same told left_is ended_is p =
    subst (λ a. OnErr a (OfKept names lines (λ h. OfLinesRead given now ended (P h)))) (sym is)
    (err_whose (OfKept names lines (λ h. OfLinesRead given now ended (P h))) r failed
    (subst (λ ls. OnErr r (OfKept names ls (λ h. OfLinesRead given now ended (P h)))) same
    (subst (λ l. OnErr r (OfKept names kept (λ h. OfLinesRead l now ended (P h)))) told
    (subst (λ l. OnErr r (OfKept names kept (λ h. OfLinesRead left l ended (P h)))) left_is
    (subst (λ m. OnErr r (OfKept names kept (λ h. OfLinesRead left new m (P h)))) ended_is p)))))

-- it asked for more bytes where the run's read failed
read_failed_of : {T : Type 0} (r : Result T RunFault) (failed : Option JournalFault) → FailsToRead (whose r failed)
    → r ≡ Err run.Read
read_failed_of (Ok x) failed fails = absurd fails
read_failed_of (Err run.NoMemory) failed fails = absurd fails
read_failed_of (Err run.Write) failed fails = absurd fails
read_failed_of (Err run.Read) failed fails = refl

pub none_held_of : {T : Type 0} (Flushed : Type 0) (P : History → List (List ℕ) → Type 0)
    (names kept lines : List (List ℕ)) (left given new now : Option (List ℕ)) (met_end ended : Bool)
    (r : Result T RunFault) (failed : Option JournalFault) (answer : Result T KeptFault) → answer ≡ whose r failed
    → kept ≡ lines → left ≡ given → new ≡ now → met_end ≡ ended
    → (r ≡ Err run.Read → Flushed × OfKept names kept (λ h. OfLinesRead left new met_end (P h)))
    → FailsToRead answer → Flushed × OfKept names lines (λ h. OfLinesRead given now ended (P h))
none_held_of Flushed P names kept lines left given new now met_end ended r failed answer is same told left_is ended_is p
    fails =
    let found = p (read_failed_of r failed (subst FailsToRead is fails)) in (
      found.0,
      subst (λ ls. OfKept names ls (λ h. OfLinesRead given now ended (P h))) same
          (subst (λ l. OfKept names kept (λ h. OfLinesRead l now ended (P h))) told
          (subst (λ l. OfKept names kept (λ h. OfLinesRead left l ended (P h))) left_is
          (subst (λ m. OfKept names kept (λ h. OfLinesRead left new m (P h))) ended_is found.1))),
    )

neither : (t r : Bool) → (t || r) ≡ false → (t ≡ false) × (r ≡ false)
neither true r e = absurd (true≢false e)
neither false r e = (refl, e)

or_nothing : (t : Bool) → (t || false) ≡ true → t ≡ true
or_nothing true e = refl
or_nothing false e = e

abbrev fault_in : {T : Type 0} → Result T KeptFault → Option JournalFault → Option JournalFault
fault_in (Ok x) other = other
fault_in (Err kept.NoMemory) other = other
fault_in (Err kept.Read) other = other
fault_in (Err kept.Write) other = other
fault_in (Err (kept.Journal why)) other = Some why

-- what a run sees of its devices, where the reader is one that keeps ahead
pub record Seen (inside outside : Devices) (failed : Option JournalFault) (reads : ℕ) (met_end : Bool) : Type 0 where
  pub read_failed : inside.read_failed ≡ (outside.read_failed || is_some failed)
  pub reads_are : inside.reads ≡ reads
  pub fewer : outside.reads ≤ reads
  pub met_end_is : inside.met_end ≡ met_end
  pub flushed : inside.is_flushed ≡ outside.is_flushed
  pub write_failed : inside.write_failed ≡ outside.write_failed

pub honest_kept : {T : Type 0} (r : Result T RunFault) (inside outside : Devices) (failed : Option JournalFault)
    (reads : ℕ) (met_end : Bool) → IsHonest r inside → Seen inside outside failed reads met_end
    → IsHonestKept (whose r failed) failed outside reads met_end
honest_kept (Ok x) inside outside failed reads met_end h s =
    let both = neither outside.read_failed (is_some failed) (sym s.read_failed ∙ h.ok.0) in
    record {
      flushed = sym s.flushed ∙ h.flushed;
      ended = sym s.met_end_is ∙ h.ended;
      ok = (both.0, sym s.write_failed ∙ h.ok.1, no_fault failed both.1);
      read = λ e. cc;
      write = λ e. cc;
      journal = λ why e. cc;
      most = omega (arith, h.reads, s.reads_are, s.fewer);
    }
honest_kept (Err run.NoMemory) inside outside failed reads met_end h s = record {
  flushed = tt;
  ended = tt;
  ok = tt;
  read = λ e. cc;
  write = λ e. cc;
  journal = λ why e. cc;
  most = omega (arith, h.reads, s.reads_are, s.fewer);
}
honest_kept (Err run.Write) inside outside failed reads met_end h s = record {
  flushed = tt;
  ended = tt;
  ok = tt;
  read = λ e. cc;
  write = λ _. sym s.write_failed ∙ h.write refl;
  journal = λ why e. cc;
  most = omega (arith, h.reads, s.reads_are, s.fewer);
}
honest_kept (Err run.Read) inside outside None reads met_end h s = record {
  flushed = tt;
  ended = tt;
  ok = tt;
  read = λ _. ⊎_elim (λ e. inl (or_nothing outside.read_failed (sym s.read_failed ∙ e)))
      (λ e. inr (sym s.reads_are ∙ e.0, sym s.met_end_is ∙ e.1)) (h.read refl);
  write = λ e. cc;
  journal = λ why e. cc;
  most = omega (arith, h.reads, s.reads_are, s.fewer);
}
honest_kept (Err run.Read) inside outside (Some fault) reads met_end h s = record {
  flushed = tt;
  ended = tt;
  ok = tt;
  read = λ e. cc;
  write = λ e. cc;
  journal = λ why e. ap (λ r. fault_in r None) e;
  most = omega (arith, h.reads, s.reads_are, s.fewer);
}

-- ---- a good end

at_end_put : (left : Option (List ℕ)) (held : List ℕ) → held ≡ [] → IsAtEnd left → IsAtEnd (put_back held left)
at_end_put left held none end = subst IsAtEnd (sym (ap (λ xs. put_back xs left) none ∙ put_none left)) end

pub all_kept : {T S : Type 0} (StandFor : List (List ℕ) → List (List ℕ) → Type 0) (answer : Result T KeptFault)
    (calls : store.Ghosts S) (begun : Begun) (left : Option (List ℕ)) (held : List ℕ) (met_end : Bool)
    (failed : Option JournalFault) (journal : Journal S) (devices : Devices) (reads : ℕ)
    → IsHonestKept answer failed devices reads met_end
    → WasAhead StandFor calls begun left held met_end failed journal
    → OnOk answer (OfInput begun.left (λ input. HasKept StandFor calls begun (lines_of input) journal))
all_kept StandFor (Err fault) calls begun left held met_end failed journal devices reads h w = tt
all_kept StandFor (Ok x) calls begun left held met_end failed journal devices reads h w =
    let none = w.ended h.ended in
    of_input begun.left (put_back held left) w.handed _ w.given (at_end_put left held none.0 none.1)
    (subst (λ met. HasKept StandFor calls begun (lines_read met w.handed) journal) h.ended (w.well h.ok.2).1)
