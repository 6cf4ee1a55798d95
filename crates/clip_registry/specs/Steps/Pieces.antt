-- Entries in the order of their ids, cut into pieces.
use Rattle.std.specs.Prelude.{◌≡◌, ℕ, zero, suc, ◌<◌, ◌≤◌, ◌/◌, ◌⊎◌, Bool, true, false, T, List, [], ◌∷◌, ◌++◌}
use Rattle.std.specs.Prelude.{slice_index_or}
use Rattle.std.specs.List.{prefix_len, list_all}
use Rattle.std.specs.Ordering.{is_gt}
use Rattle.std.specs.FinMap as finite
use Rattle.std.specs.declared.sync.Arc.{Arc}
use Rattle.std.specs.declared.alloc.Global.{Global}
use Rattle.clip_words.specs.Order.{bytes_cmp}
use Rattle.clip_model.specs.History.{Registered, Registry}
use Rattle.clip_registry.specs.declared.by_id.piece.TheConstants.{MOST_IN_PIECE}

-- an entry under its id
abbrev pub keyed : Arc Registered Global → List ℕ × Registered
keyed entry = (entry.value.standing.id, entry.value)

-- how many ids at the front of a piece are below this one
abbrev pub rank : List ℕ → Registry → ℕ
rank id piece = prefix_len (λ e. is_gt (bytes_cmp id e.0)) (finite.entries piece)

-- each id of the piece is below this one
abbrev pub ends_below : List ℕ → Registry → Bool
ends_below id piece = list_all (λ e. is_gt (bytes_cmp id e.0)) (finite.entries piece)

-- the entries of the pieces, one piece after another
abbrev pub joined : List Registry → List (List ℕ × Registered)
joined [] = []
joined (piece ∷ pieces) = finite.entries piece ++ joined pieces

-- the map that the pieces amount to
abbrev pub map_of : List Registry → Registry
map_of pieces = finite.from_sorted (joined pieces)

-- Each piece has an entry, and no more than it may.
abbrev pub AreFilled : List Registry → Type 0
AreFilled [] = Unit {0}
AreFilled (piece ∷ pieces) = ((0 < finite.len piece) × (finite.len piece ≤ MOST_IN_PIECE)) × AreFilled pieces

-- The ids rise through all pieces, none of which is empty or too long.
pub record AreInOrder (pieces : List Registry) : Type 0 where
  pub sorted : T (finite.is_sorted bytes_cmp (joined pieces))
  pub filled : AreFilled pieces

-- It is the place of the first piece that has an id that is not below this one, or of the last piece where each ends
-- below it.
abbrev pub IsPlaceFor : List ℕ → List Registry → ℕ → Type 0
IsPlaceFor id [] place = ⊥
IsPlaceFor id (piece ∷ pieces) zero = (ends_below id piece ≡ false) ⊎ (pieces ≡ [])
IsPlaceFor id (piece ∷ pieces) (suc place) = (ends_below id piece ≡ true) × IsPlaceFor id pieces place

-- Two pieces have the entries of one, the first of them half.
pub record AreHalves (piece lower upper : Registry) : Type 0 where
  pub entries : finite.entries lower ++ finite.entries upper ≡ finite.entries piece
  pub half : finite.len lower ≡ finite.len piece / 2

-- It is the place of the piece for an id, which has room for one entry more.
pub record HasRoomFor (id : List ℕ) (pieces : List Registry) (place : ℕ) : Type 0 where
  pub at : IsPlaceFor id pieces place
  pub room : (d : Registry) → finite.len (slice_index_or pieces place d) < MOST_IN_PIECE
