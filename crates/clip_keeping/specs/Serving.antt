-- What a run over a store gives.
use Rattle.std.specs.Prelude.{◌≡◌, ⊤, ℕ, List, ◌++◌, Option, Result}
use Rattle.clip_stream.specs.Lines.{OfInput}
use Rattle.clip_stream.specs.declared.device.Source as source
use Rattle.clip_listen.specs.Heard.{Hearer}
use Rattle.clip_ledger.specs.Rows.{RowValue}
use Rattle.clip_front.specs.Devices.{Devices}
use Rattle.clip_front.specs.Outcome.{names_in, OfKept, GivesAllFrom}
use Rattle.clip_front.specs.declared.settings.Settings.{Settings}
use Rattle.clip_front.specs.declared.session.Ended.{Ended}
use Rattle.clip_journal.specs.Contents.{kept_of}
use Rattle.clip_journal.specs.Kept.{Kept}
use Rattle.clip_journal.specs.declared.store.Store as store
use Rattle.clip_ahead.specs.Handing.{WasAhead}
use Rattle.clip_ahead.specs.declared.kept_source.KeptParts.{KeptParts}
use Rattle.clip_kept.specs.Opened.{begun_with}
use Rattle.clip_kept.specs.Whose.{IsHonestKept}
use Rattle.clip_kept.specs.declared.fault.KeptFault.{KeptFault}
use Rattle.clip_kept.specs.declared.opened.Opened.{Opened}
use Rattle.clip_keeping.specs.Opening.{GoesOnFrom}
use Rattle.clip_keeping.specs.Statuses.{outcome_of}
use Rattle.clip_keeping.specs.declared.fault.Fault.{Fault}

-- It goes on from what the store had: what was written and heard is all that is due to the input after that.
pub record GivesAllOver (bytes : List ℕ) (hearers heard : List Hearer) (settings : Settings) (left : Option (List ℕ))
    (old new : Option (List ℕ)) : Type 0 where
  pub now : Kept
  pub goes_on : GoesOnFrom (names_in hearers) bytes now
  pub lines : ℕ
  pub ledger : List RowValue
  pub given : OfKept (names_in hearers) (now.live ++ now.since)
      (λ begins. OfInput left (GivesAllFrom begins hearers heard settings old new lines ledger))

-- It went on from what the store had and left this: all that was handed out is kept, as `run_kept` says it, and its
-- answer, of which this outcome was told, is honest.
pub record IsKept {R S : Type 0} (reads : source.Ghosts R) (calls : store.Ghosts S)
    (StandFor : List (List ℕ) → List (List ℕ) → Type 0) (names : List (List ℕ)) (reader : R) (bytes : List ℕ)
    (outcome : Result ⊤ Fault) (parts : KeptParts R S) (devices : Devices) : Type 0 where
  pub opened : Opened S
  pub goes_on : GoesOnFrom names bytes (kept_of opened.found)
  pub was_ahead : WasAhead StandFor calls (begun_with reads calls reader opened) (reads.left parts.reader)
      parts.held.items parts.met_end parts.fault parts.journal
  pub answer : Result Ended KeptFault
  pub told : outcome ≡ outcome_of answer
  pub honest : IsHonestKept answer parts.fault devices parts.reads parts.met_end
