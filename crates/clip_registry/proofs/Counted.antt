-- How many live entries there are.
use Rattle.std.proofs.Common.{◌≡◌, ℕ, zero, suc, ◌-◌, ◌<◌, ◌≤◌, true, false, cond, List, [], ◌∷◌, ◌++◌, length, take}
use Rattle.std.proofs.Common.{drop, refl, sym, ap, subst, ◌∙◌, arith, Some, is_some}
use Rattle.std.proofs.lemmas.Cmp.{nat_list_cmp_total}
use Rattle.std.proofs.lemmas.List.{take-append-drop}
use Rattle.std.proofs.lemmas.List.Elements.{All-contains, Contains-append_left, Contains-append_right}
use Rattle.std.proofs.lemmas.Option.{none-some, same_Some}
use Rattle.std.specs.List.{Contains}
use Rattle.std.specs.Ordering.{eq_by_cmp}
use Rattle.std.specs.FinMap as finite
use Rattle.std.specs.FinMap.{get-empty, len-remove, empty_of_len}
use Rattle.clip_words.specs.Order.{bytes_cmp}
use Rattle.clip_merge.specs.Plan.{neighbours}
use Rattle.clip_registry.proofs.Entries.{all_entries-append}
use Rattle.clip_indexed.specs.Segment.{IsRising, all_entries}
use Rattle.clip_model.specs.History.{Registered, Registry, replay, is_live}
use Rattle.clip_model.proofs.ById.{bytes_same}
use Rattle.clip_model.proofs.Live.{removed_else}
use Rattle.clip_registry.specs.Merging.{live_of}
use Rattle.clip_registry.specs.RegistryState.{RegistryState, IsWhole}
use Rattle.clip_registry.proofs.Kept.{all_of_some, contains_of_filter}
use Rattle.clip_registry.proofs.Rising.{Below, rising_nil, rising_cons, rising_head, rising_tail, rising_filter}
use Rattle.clip_registry.proofs.Rising.{contains_head, contains_later}

-- what gives a query is not empty
some_given : (m : Registry) (id : List ℕ) (r : Registered) → finite.get m id ≡ Some r → 0 < finite.len m
some_given m id r h = go (finite.len m) refl
  where
    go : (n : ℕ) → finite.len m ≡ n → 0 < n
    go zero e = absurd (none-some _ (sym (get-empty bytes_cmp id)
        ∙ ap (λ (k : Registry). finite.get k id) (sym (empty_of_len m e)) ∙ h))
    go (suc n) e = omega arith

-- one fewer without a query that is there
one_fewer : (m : Registry) (id : List ℕ) (r : Registered) → finite.get m id ≡ Some r
    → suc (finite.len (finite.remove m id)) ≡ finite.len m
one_fewer m id r h =
    let some = some_given m id r h in
    let less : finite.len (finite.remove m id) ≡ finite.len m - 1 = len-remove nat_list_cmp_total m id
    ∙ ap (λ o. cond (is_some o) (finite.len m - 1) (finite.len m)) h in
    omega arith

-- the registry gives each of these under its id
abbrev pub AreGiven : Registry → List Registered → Type 0
AreGiven m rs = (r : Registered) → Contains rs r → finite.get m r.standing.id ≡ Some r

-- of entries whose seqs rise no later one stands under the id of the first
apart : (m : Registry) (r t : Registered) (rs : List Registered) → IsRising (r ∷ rs) → AreGiven m (r ∷ rs)
    → Contains rs t → eq_by_cmp bytes_cmp t.standing.id r.standing.id ≡ false
apart m r t rs is given h =
    elim (eq_by_cmp bytes_cmp t.standing.id r.standing.id) as (λ b. eq_by_cmp bytes_cmp t.standing.id r.standing.id ≡ b
    → b ≡ false) [
      | false ↦ λ _. refl
      | true ↦ λ e.
          let ids : t.standing.id ≡ r.standing.id = bytes_same t.standing.id r.standing.id e in
          let one : t ≡ r = same_Some t r (sym (given t (contains_later r t rs h)) ∙ ap (finite.get m) ids
          ∙ given r (contains_head r rs)) in
          let above : r.seq < t.seq = All-contains (Below r) rs t (rising_head r rs is) h in
          let same : t.seq ≡ r.seq = ap (λ (q : Registered). q.seq) one in
          absurd (omega arith)
    ] refl

-- entries with seqs of their own that a registry gives are no more than it has
pub few_given : (rs : List Registered) (m : Registry) → IsRising rs → AreGiven m rs → length rs ≤ finite.len m
few_given [] m is given = omega arith
few_given (r ∷ rs) m is given =
    let fewer = one_fewer m r.standing.id r (given r (contains_head r rs)) in
    let rest : length rs ≤ finite.len (finite.remove m r.standing.id) =
    few_given rs (finite.remove m r.standing.id) (rising_tail r rs is) (λ t h.
    removed_else m r.standing.id t.standing.id (apart m r t rs is given h) ∙ given t (contains_later r t rs h)) in
    omega arith

-- some neighbours are part of all segments
parts : (segments : List (List Registered)) (first count : ℕ)
    → all_entries segments ≡ all_entries (take first segments)
    ++ (all_entries (neighbours segments first count) ++ all_entries (drop count (drop first segments)))
parts segments first count =
    ap all_entries (sym (take-append-drop first segments))
    ∙ all_entries-append (take first segments) (drop first segments)
    ∙ ap (λ es. all_entries (take first segments) ++ es)
    (ap all_entries (sym (take-append-drop count (drop first segments)))
    ∙ all_entries-append (take count (drop first segments)) (drop count (drop first segments)))

pub neighbours_among : (segments : List (List Registered)) (first count : ℕ) (r : Registered)
    → Contains (all_entries (neighbours segments first count)) r → Contains (all_entries segments) r
neighbours_among segments first count r h =
    subst (λ es. Contains es r) (sym (parts segments first count))
    (Contains-append_right (all_entries (take first segments)) _ r
    (Contains-append_left (all_entries (neighbours segments first count))
    (all_entries (drop count (drop first segments))) r h))

pub neighbours_rise : (segments : List (List Registered)) (first count : ℕ) → IsRising (all_entries segments)
    → IsRising (all_entries (neighbours segments first count))
neighbours_rise segments first count is =
    rising_left (all_entries (neighbours segments first count)) (all_entries (drop count (drop first segments)))
    (rising_right (all_entries (take first segments)) _ (subst IsRising (parts segments first count) is))
  where
    rising_right : (xs ys : List Registered) → IsRising (xs ++ ys) → IsRising ys
    rising_right [] ys is = is
    rising_right (x ∷ xs) ys is = rising_right xs ys (rising_tail x (xs ++ ys) is)

    rising_left : (xs ys : List Registered) → IsRising (xs ++ ys) → IsRising xs
    rising_left [] ys is = rising_nil
    rising_left (x ∷ xs) ys is =
        rising_cons x xs (all_of_some (Below x) (xs ++ ys) xs (rising_head x (xs ++ ys) is)
        (λ r h. Contains-append_left xs ys r h)) (rising_left xs ys (rising_tail x (xs ++ ys) is))

-- the live entries of some neighbours are no more than the registered queries
pub few_live : (state : RegistryState) (first count : ℕ) → IsWhole state
    → length (live_of state (all_entries (neighbours state.segments first count))) ≤ finite.len (replay state.history)
few_live state first count whole =
    let some = all_entries (neighbours state.segments first count) in
    let live = λ (r : Registered). is_live state.history r.seq in
    few_given (live_of state some) (replay state.history)
    (rising_filter live some (neighbours_rise state.segments first count whole.rising)) (λ r h.
    let among = contains_of_filter live r some h in
    (whole.live_entries r).1 (neighbours_among state.segments first count r among.0, among.1))
