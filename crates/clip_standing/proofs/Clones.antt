-- Clones show what their sources show.
use Rattle.std.proofs.Common.{◌≡◌, List, [], ◌∷◌, map, refl}
use Rattle.std.specs.List.{AllZip}
use Rattle.std.specs.Arc.{arc_value}
use Rattle.std.specs.declared.sync.Arc.{Arc}
use Rattle.std.specs.declared.alloc.Global.{Global}

-- a list of clones, seen through what they share with their sources
pub map_clones : {X Y : Type 0} (C : X → X → Type 0) (f : X → Y) → ((x y : X) → C x y → f y ≡ f x) → (xs ys : List X)
    → AllZip C xs ys → map f ys ≡ map f xs
map_clones C f same [] [] all = refl
map_clones C f same [] (y ∷ ys) all = absurd all
map_clones C f same (x ∷ xs) [] all = absurd all
map_clones C f same (x ∷ xs) (y ∷ ys) all = λ i. same x y all.0 i ∷ map_clones C f same xs ys all.1 i

pub map_shared : {X : Type 0} (xs ys : List (Arc X Global)) → AllZip (λ x y. arc_value y ≡ arc_value x) xs ys
    → map arc_value ys ≡ map arc_value xs
map_shared xs ys all = map_clones (λ x y. arc_value y ≡ arc_value x) arc_value (λ x y e. e) xs ys all
