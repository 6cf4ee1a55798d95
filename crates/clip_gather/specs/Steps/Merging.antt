-- Lists while they are merged.
use Rattle.std.specs.Prelude.{◌≡◌, ℕ, false, List, [], ◌∷◌, map}
use Rattle.std.specs.Ordering.{is_lt}
use Rattle.std.specs.declared.collections.VecDeque.{VecDeque}
use Rattle.std.specs.declared.alloc.Global.{Global}
use Rattle.clip_words.specs.Order.{bytes_cmp}
use Rattle.clip_model.specs.Alerts as model
use Rattle.clip_standing.specs.Alerts.{alert_value}
use Rattle.clip_standing.specs.declared.alert.Alert.{Alert}

-- the id of the first is not below the item's
abbrev pub IsNotBelow : {A : Type 0} → (A → List ℕ) → List A → A → Type 0
IsNotBelow id [] a = Unit {0}
IsNotBelow id (b ∷ bs) a = is_lt (bytes_cmp (id b) (id a)) ≡ false

abbrev pub items_of : {A : Type 0} → VecDeque A Global → List A
items_of list = list.items

abbrev pub values : VecDeque Alert Global → List model.Alert
values alerts = map alert_value alerts.items
