-- The rule over the ends of the published value, and what their steps tell.
use Rattle.std.specs.Prelude.{◌≡◌, ℕ, Bool, false, List, Option, None, Some}
use mathlib.Core.Option.{some}
use mathlib.Core.List.{IsPrefix}
use lib.ListN.{get_elem?}
use Rattle.logbook.specs.Pages.{Book}
use Rattle.clip_registry.specs.RegistryState.{RegistryState}
use Rattle.clip_desk.specs.Published.{PublishedIs}

-- y is of the desk of x, its history is kept just where that of x is, and goes on from it
abbrev pub Continues : PublishedIs → PublishedIs → Type 0
Continues x y = (y.book ≡ x.book) × (y.callers ≡ x.callers)
    × (y.view.keeps ≡ x.view.keeps) × IsPrefix x.view.history y.view.history

-- what an end saw last, if anything, is continued by x
abbrev pub Fits : PublishedIs → Option PublishedIs → Type 0
Fits x None = Unit {0}
Fits x (Some p) = Continues p x

-- what each end saw is continued by the published value
abbrev pub Keeps : PublishedIs → List (Option PublishedIs) → Type 0
Keeps x ends = (seat : ℕ) (v : Option PublishedIs) → get_elem? ends seat ≡ some v → Fits x v

-- the value y is seen, and continues what had been seen
abbrev pub Sees : Option PublishedIs → PublishedIs → PublishedIs → Option PublishedIs → Type 0
Sees v x y w = (w ≡ Some y) × Fits y v

-- an end that has seen a value of this book, with so many callers
abbrev pub IsOf : Book → ℕ → Option PublishedIs → Type 0
IsOf book callers None = ⊥
IsOf book callers (Some p) = (p.book ≡ book) × (p.callers ≡ callers)

-- whether the history of what an end saw last is kept to be read
abbrev pub seen_keeps : Option PublishedIs → Bool
seen_keeps None = false
seen_keeps (Some p) = p.view.keeps

-- this view is shown, with the book and the callers as before, and with this length at its last purge
pub record Shows (before : PublishedIs) (view : RegistryState) (purged_at : ℕ) (after : PublishedIs) : Type 0 where
  pub view_is : after.view ≡ view
  pub book_is : after.book ≡ before.book
  pub callers_are : after.callers ≡ before.callers
  pub purge_is : after.purged_at ≡ purged_at

-- what is seen later is of the desk of what was seen before, and its history is kept just where that was
pub record StaysOf (v w : Option PublishedIs) : Type 0 where
  pub of : (book : Book) (n : ℕ) → IsOf book n v → IsOf book n w
  pub keeps : (book : Book) (n : ℕ) → IsOf book n v → seen_keeps w ≡ seen_keeps v
