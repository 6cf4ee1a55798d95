-- What a registrar of one's own does at a line that asks for no purge.
use Rattle.std.specs.Prelude.{◌≡◌, ◌⊎◌, ◌≤◌, ℕ, Bool, true, false, OnOk, length}
use Rattle.clip_model.specs.History.{Command}
use Rattle.clip_registry.specs.Plan.{AreFew}
use Rattle.clip_merge.specs.declared.payment.Payment.{Payment}
use Rattle.clip_registry.specs.Price.{HavePaid}
use Rattle.clip_registry.specs.RegistryState.{state_after}
use Rattle.clip_registry.specs.Steps.Turns.{TakesTurns}
use Rattle.clip_run.specs.declared.own_registrar.OwnRegistrar.{OwnRegistrar}

-- It has taken merge turns, after which segments are few where none was refused memory.
pub record HasTakenTurns (old new : OwnRegistrar) : Type 0 where
  pub turns : TakesTurns false old.registrar new.registrar
  pub few : OnOk new.merges (AreFew new.registrar.segments)
  pub history : new.registrar.history ≡ old.registrar.history

-- Its registrar stays as it is, or accepts a command of caller 1 and takes merge turns then; where none of these was
-- refused memory, segments are few after them.
abbrev pub GoesOnUnpurged : OwnRegistrar → OwnRegistrar → Type 0
GoesOnUnpurged old new = (new.registrar ≡ old.registrar)
    ⊎ ((c : Command) × TakesTurns false (state_after old.registrar 1 c) new.registrar
    × OnOk new.merges (AreFew new.registrar.segments))

-- So many articles more have paid. Where one segment is due by that, it has taken turns to one, after which there is
-- one at most where none of these was refused memory; else it stays as it is.
pub record HasMergedPaid (old new : OwnRegistrar) (before after : Payment) (matched : ℕ) : Type 0 where
  pub due : Bool
  pub paid : HavePaid before after old.registrar.segments matched due
  pub turns : due ≡ true → TakesTurns true old.registrar new.registrar
      × OnOk new.merges (length new.registrar.segments ≤ 1)
  pub stays : due ≡ false → new ≡ old
  pub history : new.registrar.history ≡ old.registrar.history
