-- What is shown already of an article stands in a reply as its alerts would.
use Rattle.std.proofs.Common.{◌≡◌, ℕ, List, [], ◌∷◌, ◌++◌, Option, true, false, refl, subst}
use Rattle.clip_stream.specs.Device.{AppendsFront, HandsOver}
use Rattle.clip_stream.proofs.Flows.{front_behind, handed_more}
use Rattle.clip_protocol.specs.Steps.Flowing.{Data, item_text}
use Rattle.clip_front.proofs.Flowing.{front_of_first}

-- a comma was put, and the item behind it
pub put_behind : (old mid new : Option (List ℕ)) (gathered held left text : List ℕ) (d : Data)
    → text ≡ item_text false d → HandsOver old (gathered ++ 44 ∷ []) mid held → HandsOver mid (held ++ text) new left
    → HandsOver old (gathered ++ item_text true d) new left
put_behind old mid new gathered held left text d same comma item =
    subst (λ t. HandsOver old (gathered ++ 44 ∷ t) new left) same
    (handed_more old mid new gathered held left (44 ∷ []) text comma item)

-- of the item behind it a front was
pub front_behind_comma : (old mid new : Option (List ℕ)) (gathered held text : List ℕ) (d : Data)
    → text ≡ item_text false d → HandsOver old (gathered ++ 44 ∷ []) mid held → AppendsFront mid new (held ++ text)
    → AppendsFront old new (gathered ++ item_text true d)
front_behind_comma old mid new gathered held text d same comma item =
    subst (λ t. AppendsFront old new (gathered ++ 44 ∷ t)) same
    (front_behind old mid new gathered held (44 ∷ []) text comma item)

-- of the comma a front was
pub front_of_comma : (old new : Option (List ℕ)) (gathered : List ℕ) (d : Data)
    → AppendsFront old new (gathered ++ 44 ∷ []) → AppendsFront old new (gathered ++ item_text true d)
front_of_comma old new gathered d comma =
    front_of_first old new gathered (44 ∷ []) (item_text false d) (item_text true d) refl comma
