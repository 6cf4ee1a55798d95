-- The history, and whether it is kept to be read.
use Rattle.std.specs.Prelude.{Bool, refl}
use Rattle.std.specs.Coded.{Coded, code_by, coded×, coded_bool}
use Rattle.clip_model.specs.History.{History, history_code}

pub record Log : Type 0 where
  pub history : History
  pub keeps : Bool

abbrev pub log_code : Coded Log
log_code = code_by (History × Bool) (coded× history_code coded_bool) (λ l. (l.history, l.keeps))
    (λ p. record { history = p.0; keeps = p.1 }) (λ _. refl)
