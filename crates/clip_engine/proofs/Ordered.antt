-- The live entries, sorted by id, are the registered queries.
use Rattle.std.proofs.Common.{◌≡◌, ℕ, ◌<◌, Bool, List, map, get_or, filter}
use Rattle.std.proofs.Common.{Contains, IsPermutation, sym, ap, ◌∙◌, Some}
use Rattle.std.specs.List.Sorted.{IsSortedByKey}
use Rattle.std.specs.Cmp.Lexicographic.{nat_list_cmp_total}
use Rattle.std.specs.FinMap as finite
use Rattle.std.specs.FinMap.{get-entries, slice_cmp-IsAntisymmetric, nat_cmp-IsAntisymmetric}
use Rattle.std.specs.FinMap.Entries.{find, same_entries}
use Rattle.std.proofs.lemmas.Float.{T_from_true}
use Rattle.std.proofs.lemmas.Simd.{map-map}
use Rattle.std.proofs.lemmas.List.Elements.{All-contains, All-contains_itself, All-filter, filter_passes}
use Rattle.std.proofs.lemmas.List.Kept.{AllPairs-filter}
use Rattle.std.proofs.lemmas.List.Sorted.{Contains-permutation, IsPermutation-sym}
use Rattle.clip_words.specs.Order.{bytes_cmp}
use Rattle.clip_model.specs.History.{Registered, is_live, replay}
use Rattle.clip_model.proofs.Numbering.{replay_numbered}
use Rattle.clip_indexed.specs.Segment.{IsRising, all_entries}
use Rattle.clip_registry.specs.RegistryState.{RegistryState, IsWhole}
use Rattle.clip_registry.proofs.Rising.{contains_filter}
use Rattle.clip_terms.proofs.Strict.{entries_in_order}
use Rattle.clip_match.specs.Candidates.{AreRegistered}
use Rattle.clip_match.proofs.ById.{by_id, with_id, same_option, distinct_ids, sorted_under_ids, found_is, is_found}

-- ---- the live entries

abbrev pub live : RegistryState → List Registered
live state = filter (λ r. is_live state.history r.seq) (all_entries state.segments)

live_registered : (state : RegistryState) → IsWhole state → AreRegistered state (live state)
live_registered state whole k d inside =
    let p : Registered → Bool = λ r. is_live state.history r.seq in
    let entries = all_entries state.segments in
    (whole.live_entries (get_or (filter p entries) k d)).1 (
      All-filter p (Contains entries) entries (All-contains_itself entries) k d inside,
      filter_passes p entries k d inside,
    )

-- sorted by id, they are the registered queries
are_registered : (state : RegistryState) (rs : List Registered) → IsWhole state → IsPermutation (live state) rs
    → IsSortedByKey (λ r. r.standing.id) bytes_cmp rs → by_id rs ≡ finite.entries (replay state.history)
are_registered state rs whole moved sorted =
    let registry = replay state.history in
    let entries = finite.entries registry in
    let registered = live_registered state whole in
    let rising : IsRising (live state) =
    record {
      rises = AllPairs-filter (λ e f. e.seq < f.seq) (λ r. is_live state.history r.seq)
          (all_entries state.segments) whole.rising.rises;
    } in
    let distinct = distinct_ids state (live state) rs registered rising moved in
    let rs_sorted = T_from_true _ (sorted_under_ids rs sorted distinct) in
    same_entries bytes_cmp nat_list_cmp_total (slice_cmp-IsAntisymmetric nat_cmp-IsAntisymmetric) (by_id rs) entries
    rs_sorted (T_from_true _ (entries_in_order bytes_cmp registry)) (λ q.
    same_option _ _
    (λ r h.
    let at = found_is rs q r h in
    let among = Contains-permutation rs (live state) r (IsPermutation-sym (live state) rs moved) at.0 in
    sym (get-entries registry q) ∙ ap (finite.get registry) (sym at.1)
    ∙ All-contains (λ r. finite.get registry r.standing.id ≡ Some r) (live state) r registered among)
    (λ r h.
    let at = get-entries registry q ∙ h in
    let id : r.standing.id ≡ q = (replay_numbered state.history).keyed q r at in
    let stands = (whole.live_entries r).0 (ap (finite.get registry) id ∙ at) in
    let among = contains_filter (λ r. is_live state.history r.seq) r (all_entries state.segments) stands.1 stands.0 in
    ap (λ q. find bytes_cmp q (by_id rs)) (sym id)
    ∙ is_found rs r distinct (Contains-permutation (live state) rs r moved among)))

-- so their ids are those of the registered queries
pub ids_in_order : (state : RegistryState) (rs : List Registered) → IsWhole state → IsPermutation (live state) rs
    → IsSortedByKey (λ r. r.standing.id) bytes_cmp rs
    → map (λ r. r.standing.id) rs ≡ finite.keys (replay state.history)
ids_in_order state rs whole moved sorted =
    sym (map-map (λ (e : List ℕ × Registered). e.0) with_id rs)
    ∙ ap (map (λ (e : List ℕ × Registered). e.0)) (are_registered state rs whole moved sorted)
