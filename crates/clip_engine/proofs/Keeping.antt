-- What is kept.
use Rattle.std.proofs.Common.{◌≡◌, List, [], ◌∷◌, refl, Option, Some, None}
use mir.Val.{Val}
use denote.Struct.Members.{Lone}
use Rattle.std.proofs.lemmas.Bool.{false≢true}
use Rattle.std.specs.Prelude.{IsSome}

pub the_some : {X : Type 0} (m : Option X) → IsSome m → (x : X) × (m ≡ Some x)
the_some None h = absurd (false≢true h)
the_some (Some x) h = (x, refl)

-- one machine value
pub lone_word : (vs : List Val) → Lone vs → (v : Val) × (vs ≡ v ∷ [])
lone_word [] l = absurd l
lone_word (v ∷ []) l = (v, refl)
lone_word (v ∷ u ∷ us) l = absurd l
