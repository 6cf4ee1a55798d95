-- What the lock keeps.
use Rattle.std.specs.Prelude.{◌≡◌, ℕ, Bool, ◌≤◌, List, slice_get, Some, refl}
use Rattle.std.specs.Coded.{Coded, code_by, coded×, coded_ℕ, coded_list}
use Rattle.logbook.specs.Pages.{Book, Named}
use Rattle.clip_model.specs.declared.limits.TheConstants.{MOST_CALLERS}
use Rattle.clip_registry.specs.RegistryState.{RegistryState, state_code}
use Rattle.clip_desk.specs.declared.chronicle.SeenHistory.{SeenHistory}
use Rattle.clip_desk.specs.Callers.{IsBy}
use Rattle.clip_desk.specs.Chronicle.{head_of}
use Rattle.clip_desk.specs.Published.{PublishedIs}
use Rattle.clip_desk.specs.Purges.{IsPurgedAt}
use Rattle.clip_desk.specs.Seats.{SeatIs}
use Rattle.clip_desk.specs.Updates.{Heard, heard_code}

-- what contracts see under the lock: the registry, how long its history was at the last purge, how many purges were
-- told, and what each update listener has heard
pub record LockedIs : Type 0 where
  pub registry : RegistryState
  pub purged_at : ℕ
  pub purges : ℕ
  pub updates : List Heard

abbrev pub locked_code : Coded LockedIs
locked_code =
    code_by (RegistryState × (ℕ × (ℕ × List Heard)))
    (coded× state_code (coded× coded_ℕ (coded× coded_ℕ (coded_list heard_code))))
    (λ s. (s.registry, (s.purged_at, (s.purges, s.updates))))
    (λ p. record { registry = p.0; purged_at = p.1.0; purges = p.1.1.0; updates = p.1.1.1 }) (λ _. refl)

-- The registrar, the chronicle and the published value agree, and are this desk's, which keeps its history or not. The
-- history is of its callers, and no segment has an entry that was dead at the last purge.
pub record IsSettled (book : Book) (callers : ℕ) (keeps : Bool) (registrar : RegistryState) (head : Named)
    (seen_history : SeenHistory) (shown : PublishedIs) : Type 0 where
  pub keeps_is : registrar.keeps ≡ keeps
  pub log : seen_history.seen.log ≡ registrar.history
  pub book_is : seen_history.seen.book ≡ book
  pub head_is : head ≡ head_of book
  pub shown_is : shown.view ≡ registrar
  pub shown_book : shown.book ≡ book
  pub shown_callers : shown.callers ≡ callers
  pub few : callers ≤ MOST_CALLERS
  pub by : IsBy callers registrar.history
  pub purged : IsPurgedAt registrar shown.purged_at

-- a seat of the desk
abbrev pub IsSeatOf : Book → ℕ → SeatIs → Type 0
IsSeatOf book callers seat = (seat.book ≡ book) × (seat.callers ≡ callers)

-- these are seats of the desk
pub record AreSeatsOf (book : Book) (callers : ℕ) (seats : List SeatIs) : Type 0 where
  pub each : (k : ℕ) (s : SeatIs) → slice_get seats k ≡ Some s → IsSeatOf book callers s
