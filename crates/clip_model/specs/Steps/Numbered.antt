-- Registries whose seqs are numbers of their own.
use Rattle.std.specs.Prelude.{◌≡◌, ℕ, ◌<◌, ◌≤◌, List, Some}
use Rattle.std.specs.FinMap as finite
use Rattle.clip_model.specs.History.{Registered, Registry}

-- Each query is under its id, seqs are from 1 to n, and no two queries have one.
pub record IsNumbered (n : ℕ) (registry : Registry) : Type 0 where
  pub keyed : (id : List ℕ) (r : Registered) → finite.get registry id ≡ Some r → r.standing.id ≡ id
  pub within : (id : List ℕ) (r : Registered) → finite.get registry id ≡ Some r → (0 < r.seq) × (r.seq ≤ n)
  pub distinct : (a b : List ℕ) (r s : Registered) → finite.get registry a ≡ Some r → finite.get registry b ≡ Some s
      → r.seq ≡ s.seq → a ≡ b
