-- What a run leaves, by what its reader, its writer and its audience tell.
use Rattle.std.specs.Prelude.{◌≡◌, ℕ, List, true, Result, Err, IfOk, OnErr}
use Rattle.clip_stream.specs.Lines.{OfInput, OfLinesRead}
use Rattle.clip_stream.specs.declared.device.Source as source
use Rattle.clip_stream.specs.declared.device.Sink as sink
use Rattle.clip_stream.specs.declared.fault.RunFault.{RunFault}
use Rattle.clip_stream.specs.declared.fault.RunFault.TheVariants as fault
use Rattle.clip_listen.specs.Heard.{Hearer}
use Rattle.clip_listen.specs.declared.listeners.Audience as audience
use Rattle.clip_ledger.specs.Rows.{RowValue}
use Rattle.clip_front.specs.Devices.{Devices, devices_at, IsHonest}
use Rattle.clip_model.specs.History.{History}
use Rattle.clip_front.specs.Outcome.{GivesAllFrom, GivesFrontFrom, GivesLinesFrom, OfKept, names_in}
use Rattle.clip_front.specs.declared.session.Ended.{Ended}
use Rattle.clip_front.specs.declared.settings.Settings.{Settings}

-- what a reader, a writer and an audience tell
pub record Told : Type 0 where
  pub devices : Devices
  pub hearers : List Hearer

abbrev pub told : {S W A : Type 0} → source.Ghosts S → sink.Ghosts W → audience.Ghosts A → S → W → A → Told
told reads writes hears reader writer listeners =
    record { devices = devices_at reads writes reader writer; hearers = hears.hearers listeners }

-- A run of these settings that began with the history went from the first to the second, and gave so many lines and
-- these rows, or a fault.
pub record Ran {T : Type 0} (begins : History) (lines : T → ℕ) (rows : T → List RowValue) (settings : Settings)
    (old new : Told) (result : Result T RunFault) : Type 0 where
  pub outcome : IfOk result (λ t. OfInput old.devices.left
      (GivesAllFrom begins old.hearers new.hearers settings old.devices.taken new.devices.taken (lines t) (rows t)))
  pub honest : IsHonest result new.devices
  pub front : OnErr result (OfLinesRead old.devices.left new.devices.left new.devices.met_end
      (GivesFrontFrom begins old.hearers new.hearers settings.form old.devices.taken new.devices.taken))
  pub none_held : result ≡ Err fault.Read → (new.devices.is_flushed ≡ true)
      × OfLinesRead old.devices.left new.devices.left new.devices.met_end
      (GivesLinesFrom begins old.hearers new.hearers settings.form old.devices.taken new.devices.taken)

-- It ended with its lines and its ledger, or with a fault.
abbrev pub RanToEnd : History → Settings → Told → Told → Result Ended RunFault → Type 0
RanToEnd begins settings old new result =
    Ran begins (λ ended. ended.lines) (λ ended. ended.ledger) settings old new result

-- So did a run that began with the history to which these lines lead.
abbrev pub RanAgain : List (List ℕ) → Settings → Told → Told → Result Ended RunFault → Type 0
RanAgain kept settings old new result =
    OfKept (names_in old.hearers) kept (λ begins. RanToEnd begins settings old new result)
