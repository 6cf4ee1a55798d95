-- The registered queries, and how many were ever listed.
use Rattle.std.specs.Prelude.{◌≡◌, ℕ, suc, ◌+◌, ◌||◌, nat_lt, Bool, List, [], ◌∷◌, length, Option, Some, None, refl}
use Rattle.std.specs.FinMap as finite
use Rattle.std.specs.Coded.{Coded, code_by, coded×, coded_ℕ}
use Rattle.clip_model.specs.History.{Registered, Registry, registry_code, remove_all, is_live_in}
use Rattle.clip_registry.specs.Steps.LiveFlags.{without_all}

pub record Roster : Type 0 where
  pub registry : Registry
  pub listed : ℕ

abbrev pub roster_code : Coded Roster
roster_code = code_by (Registry × ℕ) (coded× registry_code coded_ℕ) (λ r. (r.registry, r.listed))
    (λ p. record { registry = p.0; listed = p.1 }) (λ _. refl)

-- a query takes the place of the one with its id
abbrev pub insert_one : Registry → Registered → Registry
insert_one registry r = finite.insert registry r.standing.id r

-- each in order
abbrev pub insert_all : Registry → List Registered → Registry
insert_all registry [] = registry
insert_all registry (r ∷ rs) = insert_all (insert_one registry r) rs

-- the seqs are those that follow n, in order
abbrev pub SeqsFollow : ℕ → List Registered → Type 0
SeqsFollow n [] = Unit {0}
SeqsFollow n (r ∷ rs) = (r.seq ≡ suc n) × SeqsFollow (suc n) rs

-- the roster with one query more
abbrev pub roster_with : Roster → Registered → Roster
roster_with roster r = record { registry = insert_one roster.registry r; listed = suc roster.listed }

-- the roster with these queries more, in order
abbrev pub roster_with_all : Roster → List Registered → Roster
roster_with_all roster rs = record
    { registry = insert_all roster.registry rs; listed = roster.listed + length rs }

-- the roster without the queries under these ids
abbrev pub roster_without : Roster → List (List ℕ) → Roster
roster_without roster ids = record { registry = remove_all ids roster.registry; listed = roster.listed }

-- the seq of a query, if there is one
abbrev pub seqs_given : Option Registered → List ℕ
seqs_given None = []
seqs_given (Some r) = r.seq ∷ []

-- a query with the seq is registered, or was not listed yet
abbrev pub has_or_awaits : Roster → ℕ → Bool
has_or_awaits roster seq = nat_lt roster.listed seq || is_live_in roster.registry seq

-- just these seqs went
abbrev pub HaveGone : List ℕ → Roster → Roster → Type 0
HaveGone seqs before after = (seq : ℕ) → without_all seqs (has_or_awaits before) seq ≡ has_or_awaits after seq
