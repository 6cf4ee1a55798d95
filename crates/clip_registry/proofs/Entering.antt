-- Entries made one by one.
use Rattle.std.proofs.Common.{◌≡◌, ℕ, ◌+◌, ◌++◌, ◌∷◌, [], List, ap, ◌∙◌, append_assoc, add-one}
use Rattle.clip_model.specs.Standing.{Standing}
use Rattle.clip_model.specs.History.{Registered}
use Rattle.clip_registry.specs.RegistryState.{numbered}

pub numbered_step : (es all : List Registered) (n : ℕ) (s : Standing) (ss : List Standing)
    → es ++ numbered n (s ∷ ss) ≡ all → (es ++ record { standing = s; seq = n + 1 } ∷ []) ++ numbered (n + 1) ss ≡ all
numbered_step es all n s ss h =
    append_assoc es (record { standing = s; seq = n + 1 } ∷ []) (numbered (n + 1) ss)
    ∙ ap (λ k. es ++ record { standing = s; seq = k } ∷ numbered k ss) (add-one n) ∙ h
