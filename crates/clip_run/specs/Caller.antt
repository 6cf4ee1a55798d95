-- What contracts see of a desk's only caller.
use Rattle.std.specs.Prelude.{◌≡◌, ℕ, ◌≤◌, length, refl}
use Rattle.std.specs.Coded.{Coded, code_by, coded×, coded_ℕ}
use Rattle.clip_model.specs.History.{History, history_code}

-- what was accepted, and how long the desk's history was at the last purge that the caller asked for
pub record CallerIs : Type 0 where
  pub history : History
  pub purged_at : ℕ

abbrev pub caller_code : Coded CallerIs
caller_code = code_by (History × ℕ) (coded× history_code coded_ℕ) (λ c. (c.history, c.purged_at))
    (λ p. record { history = p.0; purged_at = p.1 }) (λ _. refl)

-- The desk was purged where its history had all that was accepted, and nothing more was.
abbrev pub HasPurged : CallerIs → CallerIs → Type 0
HasPurged old new = (new.history ≡ old.history) × (length old.history ≤ new.purged_at)

-- It was not purged for the caller.
abbrev pub HasNotPurged : CallerIs → CallerIs → Type 0
HasNotPurged old new = new.purged_at ≡ old.purged_at
