-- Each step of an end keeps the rule.
use Rattle.std.proofs.Common.{◌≡◌, ℕ, ◌≢◌, List, [], ◌∷◌, ◌++◌, fold, set, refl, ◌∙◌, subst, ⊎_elim, Option}
use Rattle.std.proofs.Common.{None, Some, Result, Ok, Err, MatchResult}
use mathlib.Core.Option.{some}
use lib.ListN.{get_elem?}
use Rattle.left_right.specs.Register.{Admits, TurnsAt, Forks, Merges}
use Rattle.atomic_table.proofs.Lists.{at_set, at_snoc}
use Rattle.clip_desk.specs.Published.{PublishedIs}
use Rattle.clip_desk.specs.Ends.{Continues, Fits, Keeps, Sees}
use Rattle.clip_desk.proofs.Beginnings.{prefix_self, prefix_trans}

pub continues_self : (x : PublishedIs) → Continues x x
continues_self x = (refl, refl, refl, prefix_self x.view.history)

pub fits_later : (x y : PublishedIs) (v : Option PublishedIs) → Continues x y → Fits x v → Fits y v
fits_later x y None on fits = tt
fits_later x y (Some p) on fits =
    (on.0 ∙ fits.0, on.1 ∙ fits.1, on.2 ∙ fits.2, prefix_trans p.view.history x.view.history y.view.history fits.3 on.3)

fits_set : (x : PublishedIs) (views : List (Option PublishedIs)) (seat : ℕ) (w : Option PublishedIs)
    → ((j : ℕ) (u : Option PublishedIs) → get_elem? views j ≡ some u → Fits x u) → Fits x w → Keeps x (set views seat w)
fits_set x views seat w others mine j u e = ⊎_elim
    (λ (t : (j ≡ seat) × (w ≡ u)). subst (Fits x) t.1 mine)
    (λ (t : (j ≢ seat) × (get_elem? views j ≡ some u)). others j u t.1)
    (at_set views seat j w u e)

pub admits : Admits Keeps None
admits x views h j v e = ⊎_elim (h j v) (λ (t : None ≡ v). subst (Fits x) t tt) (at_snoc views None v j e)

-- a value that continues the one before is published, or is there already
pub turns : (seat : ℕ) (v : Option PublishedIs) (x y : PublishedIs) → Continues x y → TurnsAt Keeps seat v x y Sees
turns seat v x y on views h at = (
  Some y,
  fits_set y views seat (Some y) (λ j u e. fits_later x y u on (h j u e)) (continues_self y),
  (refl, fits_later x y v on (h seat v at)),
)

pub forks : (seat : ℕ) (v : Option PublishedIs) → Forks Keeps seat v v v
forks seat v x views h at j u e = ⊎_elim
    (λ (t : get_elem? (set views seat v) j ≡ some u). fits_set x views seat v h (h seat v at) j u t)
    (λ (t : v ≡ u). subst (Fits x) t (h seat v at))
    (at_snoc (set views seat v) v u j e)

pub merges : (seat : ℕ) (v : Option PublishedIs) (other : ℕ) (w : Option PublishedIs)
    → Merges Keeps seat v other w w None
merges seat v other w x views h at apart there =
    let theirs : Fits x w = ⊎_elim
    (λ (t : (other ≡ seat) × (w ≡ w)). absurd (apart t.0))
    (λ (t : (other ≢ seat) × (get_elem? views other ≡ some w)). h other w t.1)
    (at_set views seat other w w there) in
    fits_set x (set views seat w) other None (fits_set x views seat w h theirs) tt

-- the last of the operations decides
pub last_decides : (s : PublishedIs) (ops : List PublishedIs) (next : PublishedIs)
    → fold (λ (x y : PublishedIs). y) s (ops ++ next ∷ []) ≡ next
last_decides s [] next = refl
last_decides s (op ∷ ops) next = last_decides op ops next

-- two facts by cases of one answer
pub both_ways : {A E : Type 0} (P Q S : A → Type 0) (P' Q' S' : E → Type 0) (r : Result A E) → MatchResult r P P'
    → MatchResult r Q Q' → ((a : A) → P a → Q a → S a) → ((e : E) → P' e → Q' e → S' e) → MatchResult r S S'
both_ways P Q S P' Q' S' (Ok a) p q f g = f a p q
both_ways P Q S P' Q' S' (Err e) p q f g = g e p q
