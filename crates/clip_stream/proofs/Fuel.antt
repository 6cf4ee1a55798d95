-- How many lines may still come.
use Rattle.std.proofs.Common.{◌≡◌, ℕ, zero, suc, ◌+◌, ◌<◌, ◌≤◌, min, List, [], ◌++◌, length, Bool, true, false}
use Rattle.std.proofs.Common.{if◌then◌else◌, ap, ◌∙◌, arith, sym, length-append}
use Rattle.clip_stream.specs.Steps.Reading.{Reading, fuel, has_feed, first_line, after_line, cut}
use Rattle.clip_stream.proofs.Bytes.{cut_some}
use Rattle.clip_stream.proofs.Cuts.{first_line-no_feed, after_line-shorter}

-- the flag that `fuel` counts
abbrev flag : Bool → ℕ
flag b = if b then 0 else 1

pub fuel_found : (first old new : Reading) (n : ℕ) → fuel old + min 1 n ≤ fuel first → new.reads_left ≡ old.reads_left
    → new.is_at_end ≡ old.is_at_end → new.pending ≡ after_line old.pending → has_feed old.pending ≡ true
    → fuel new < fuel first
fuel_found first old new n so reads end pending feed =
    let less = after_line-shorter old.pending feed in
    let len = ap length pending in
    let same = ap flag end in
    omega (arith, so, reads, less, len, same)

pub some_before : (line new_line pending : List ℕ) → new_line ≡ cut (line ++ first_line pending)
    → has_feed pending ≡ false → 0 < length new_line → 0 < length line + length pending
some_before line new_line pending e none some =
    let whole = cut_some (line ++ first_line pending) (omega (arith, some, ap length e)) in
    omega (arith, whole, length-append line (first_line pending), ap length (first_line-no_feed pending none))

pub fuel_end : (first old mid new : Reading) (n m : ℕ) → fuel old + min 1 n ≤ fuel first
    → mid.reads_left ≡ old.reads_left → new.reads_left ≤ mid.reads_left → new.pending ≡ [] → new.is_at_end ≡ true
    → (0 < m → 0 < n + length old.pending) → 0 < m → fuel new < fuel first
fuel_end first old mid new n m so reads fewer pending end before some =
    let any = before some in
    let len = ap length pending in
    let flagged = ap flag end in
    omega (arith, so, reads, fewer, any, len, flagged)

least : (m k : ℕ) → (0 < m → 0 < k) → min 1 m ≤ k
least zero k before = omega arith
least (suc m) k before = let some = before (omega arith) in omega (arith, some)

pub fuel_more : (first old mid new : Reading) (n m : ℕ) → fuel old + min 1 n ≤ fuel first
    → mid.reads_left ≡ old.reads_left → mid.is_at_end ≡ old.is_at_end → new.reads_left + 1 ≡ mid.reads_left
    → length new.pending ≤ 65536
    → new.is_at_end ≡ false → mid.is_at_end ≡ false → (0 < m → 0 < n + length old.pending)
    → fuel new + min 1 m ≤ fuel first
fuel_more first old mid new n m so reads same fewer len end before_end before =
    let flagged = ap flag end in
    let flagged' = ap flag (sym same ∙ before_end) in
    let some = least m _ before in
    omega (arith, so, reads, fewer, len, some, flagged, flagged')

pub fuel_new : (r : Reading) → r.pending ≡ [] → r.reads_left ≡ 1099511627776 → r.is_at_end ≡ false
    → fuel r ≡ 72057594037927937
fuel_new r pending reads end =
    let len = ap length pending in
    let flagged = ap flag end in
    omega (arith, len, reads, flagged)
