-- A set of numbers, as a flag for each of them.
use Rattle.std.specs.Prelude.{ℕ, Bool, false, ◌&&◌, not, List, [], ◌∷◌, map, filter, slice_index_or}
use Rattle.std.specs.List.{enumerate_from}

-- the numbers of the flags that are set, of which the first has the number `first`
abbrev pub marked_from : ℕ → List Bool → List ℕ
marked_from first flags = map (λ e. e.0) (filter (λ e. e.1) (enumerate_from first flags))

-- the numbers, from 0, of the flags that are set
abbrev pub marked : List Bool → List ℕ
marked flags = marked_from 0 flags

-- of the flags those that are set in other flags too, of which those past the end count as not set
abbrev pub both : List Bool → List Bool → List Bool
both [] others = []
both (flag ∷ flags) [] = false ∷ both flags []
both (flag ∷ flags) (other ∷ others) = (flag && other) ∷ both flags others

-- the flag of a place is set, and not in other flags, of which those past the end count as not set
abbrev pub is_lost : List Bool → List Bool → ℕ → Bool
is_lost flags others place = slice_index_or flags place false && not (slice_index_or others place false)
