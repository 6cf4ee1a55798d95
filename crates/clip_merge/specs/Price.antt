-- What matched articles pay towards one segment of all entries.
use Rattle.std.specs.Prelude.{◌≡◌, ℕ, ◌+◌, ◌*◌, ◌/◌, ◌&&◌, Bool, cond, List, drop, length, min, leb, ltb}
use Rattle.std.specs.List.{sum_by}
use Rattle.clip_indexed.specs.Segment.{all_entries}
use Rattle.clip_model.specs.History.{Registered}
use Rattle.clip_merge.specs.declared.payment.TheConstants.{MOST_COUNTED, STEP}
pub use Rattle.clip_merge.specs.declared.payment.Payment.{Payment}

-- what an article pays for a segment of so many entries: 1, and 1 more for each so many of them, up to the most that
-- are counted
abbrev pub price_of : ℕ → ℕ
price_of entries = 1 + min entries MOST_COUNTED / STEP

-- what an article pays: the price of each segment but the oldest
abbrev pub price : List (List Registered) → ℕ
price segments = sum_by (λ segment. price_of (length segment)) (drop 1 segments)

-- what is paid after so many articles more, as far as it is counted
abbrev pub paid_with : ℕ → List (List Registered) → ℕ → ℕ
paid_with paid segments matched = min (paid + price segments * matched) 18446744073709551615

-- There are several segments, and their entries are no more than what is paid, nor than the most that may be one.
abbrev pub is_due : ℕ → ℕ → List (List Registered) → Bool
is_due paid most segments = ltb 1 (length segments) && leb (length (all_entries segments)) (min paid most)

-- So many articles more have paid. Where one segment is due, payment begins anew.
pub record HavePaid (old new : Payment) (segments : List (List Registered)) (matched : ℕ) (due : Bool) : Type 0 where
  pub is : due ≡ is_due (paid_with old.paid segments matched) old.most segments
  pub paid : new.paid ≡ cond due 0 (paid_with old.paid segments matched)
  pub most : new.most ≡ old.most
