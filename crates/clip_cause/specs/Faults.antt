-- Faults of a value: each a place and what is wrong there.
use Rattle.std.specs.Prelude.{ℕ, List, [], ◌∷◌, Option, Some, None, option_map}
use Rattle.clip_cause.specs.Path.{Path, to_member, to_item}
use Rattle.clip_cause.specs.declared.wrong.Wrong.{Wrong}

-- a path, and what is wrong where it leads
abbrev pub Fault : Type 0
Fault = Path × Wrong

-- at the value itself
abbrev pub here : Wrong → Option Fault
here w = Some ([], w)

-- at the member of this name
abbrev pub named : Wrong → List ℕ → Fault
named w name = (to_member name ∷ [], w)

-- the first of two
abbrev pub or_else : {A : Type 0} → Option A → Option A → Option A
or_else None second = second
or_else (Some x) second = Some x

-- of a member's value, as one of the object
abbrev pub beneath : List ℕ → Option Fault → Option Fault
beneath name o = option_map (λ f. (to_member name ∷ f.0, f.1)) o

-- to an item of a list, and on from it
abbrev pub item_path : List ℕ → ℕ → Path → Path
item_path list place path = to_member list ∷ to_item place ∷ path

-- of an item of a list, as one of the object that has the list
abbrev pub in_item : List ℕ → ℕ → Option Fault → Option Fault
in_item list place o = option_map (λ f. (item_path list place f.0, f.1)) o
