-- The candidates that hold, sorted by id, are what is due.
use Rattle.std.proofs.Common.{◌≡◌, ℕ, ◌<◌, Bool, true, false, cond, List, map, filter, IsPermutation, refl, sym, ap}
use Rattle.std.proofs.Common.{◌∙◌, Option, Some, None}
use Rattle.std.specs.List.Sorted.{IsSortedByKey}
use Rattle.std.specs.Cmp.Lexicographic.{nat_list_cmp_total}
use Rattle.std.specs.Cmp.{eq_by_cmp_equiv}
use Rattle.std.specs.FinMap as finite
use Rattle.std.specs.FinMap.{get-entries, slice_cmp-IsAntisymmetric, nat_cmp-IsAntisymmetric}
use Rattle.std.specs.FinMap.Entries.{find, same_entries}
use Rattle.std.proofs.lemmas.Float.{T_from_true}
use Rattle.std.proofs.lemmas.Simd.{map-map}
use Rattle.std.proofs.lemmas.List.Elements.{All-contains, All-filter, filter_passes}
use Rattle.std.proofs.lemmas.List.Kept.{AllPairs-filter}
use Rattle.std.proofs.lemmas.List.Sorted.{Contains-permutation, IsPermutation-sym}
use Rattle.std.proofs.lemmas.Map.Entries.{option_filter, lookup-filter-values}
use Rattle.std.proofs.lemmas.Map.Keys.{IsDistinct-from_sorted}
use Rattle.clip_words.specs.Order.{bytes_cmp}
use Rattle.clip_meaning.specs.Article.{ArticleValue}
use Rattle.clip_meaning.specs.Meaning.{holds}
use Rattle.clip_model.specs.History.{Registered, replay}
use Rattle.clip_model.specs.Alerts.{alert_of, alerts, holds_of}
use Rattle.clip_indexed.specs.Segment.{IsRising}
use Rattle.clip_registry.specs.RegistryState.{RegistryState}
use Rattle.clip_registry.proofs.Rising.{contains_filter}
use Rattle.clip_model.proofs.Numbering.{replay_numbered}
use Rattle.clip_match.specs.Candidates.{AreRegistered, MissesNone}
use Rattle.clip_terms.proofs.Strict.{entries_in_order, keys_in_order}
use Rattle.clip_match.specs.Alerts.{alert_due}
use Rattle.clip_match.proofs.ById.{by_id, with_id, same_Some, none_some, same_option, distinct_ids, sorted_under_ids}
use Rattle.clip_match.proofs.ById.{found_is, is_found}
use Rattle.clip_match.proofs.Sorted.{find_lookup, sorted_filter}

-- what a test lets through was there and passes it
filtered : {A : Type 0} (p : A → Bool) (o : Option A) (x : A) → option_filter p o ≡ Some x → (o ≡ Some x) × (p x ≡ true)
filtered p None x h = absurd (none_some h)
filtered p (Some y) x h =
    elim (p y) as (λ b. p y ≡ b → cond b (Some y) None ≡ Some x → (Some y ≡ Some x) × (p x ≡ true)) [
      | true ↦ λ passes is. (is, ap p (sym (same_Some is)) ∙ passes)
      | false ↦ λ _ is. absurd (none_some is)
    ] refl h

passed : {A : Type 0} (p : A → Bool) (o : Option A) (x : A) → o ≡ Some x → p x ≡ true → option_filter p o ≡ Some x
passed p o x is passes = ap (option_filter p) is ∙ ap (λ b. cond b (Some x) None) passes

-- ---- sorted by id, the candidates that hold are the registered queries that hold

due : (state : RegistryState) (article : ArticleValue) (found rs : List Registered) → AreRegistered state found
    → MissesNone state article found → IsRising found
    → IsPermutation (filter (λ r. holds r.standing.tree article.fields) found) rs
    → IsSortedByKey (λ r. r.standing.id) bytes_cmp rs
    → by_id rs ≡ filter (holds_of article) (finite.entries (replay state.history))
due state article found rs registered misses_none rising moved sorted =
    let registry = replay state.history in
    let entries = finite.entries registry in
    let held : Registered → Bool = λ r. holds r.standing.tree article.fields in
    let kept = filter held found in
    let holding = filter (holds_of article) entries in
    let laws = eq_by_cmp_equiv nat_list_cmp_total in
    let kept_registered : AreRegistered state kept =
    All-filter held (λ r. finite.get registry r.standing.id ≡ Some r) found registered in
    let kept_rising : IsRising kept =
    record { rises = AllPairs-filter (λ e f. e.seq < f.seq) held found rising.rises } in
    let distinct = distinct_ids state kept rs kept_registered kept_rising moved in
    let rs_sorted = T_from_true _ (sorted_under_ids rs sorted distinct) in
    let holding_sorted = T_from_true _
    (sorted_filter bytes_cmp (holds_of article) entries (entries_in_order bytes_cmp registry)) in
    let apart = IsDistinct-from_sorted bytes_cmp (finite.keys registry) (keys_in_order bytes_cmp registry) in
    let look : (q : List ℕ) → find bytes_cmp q holding ≡ option_filter held (finite.get registry q) =
    λ q. find_lookup bytes_cmp q holding ∙ lookup-filter-values laws held q entries apart
    ∙ ap (option_filter held) (sym (find_lookup bytes_cmp q entries) ∙ sym (get-entries registry q)) in
    same_entries bytes_cmp nat_list_cmp_total (slice_cmp-IsAntisymmetric nat_cmp-IsAntisymmetric) (by_id rs) holding
    rs_sorted holding_sorted (λ q.
    same_option _ _
    (λ r h.
    let at = found_is rs q r h in
    let among = Contains-permutation rs kept r (IsPermutation-sym kept rs moved) at.0 in
    let given = All-contains (λ r. finite.get registry r.standing.id ≡ Some r) kept r kept_registered among in
    look q ∙ passed held _ r (ap (finite.get registry) (sym at.1)
    ∙ given) (All-contains (λ r. held r ≡ true) kept r (filter_passes held found) among))
    (λ r h.
    let at = filtered held (finite.get registry q) r (sym (look q) ∙ h) in
    let id : r.standing.id ≡ q = (replay_numbered state.history).keyed q r at.0 in
    let among = contains_filter held r found at.1 (misses_none r (ap (finite.get registry) id ∙ at.0) at.1) in
    ap (λ q. find bytes_cmp q (by_id rs)) (sym id)
    ∙ is_found rs r distinct (Contains-permutation kept rs r moved among)))

-- so their alerts are those that are due
pub alerts_are_due : (state : RegistryState) (article : ArticleValue) (found rs : List Registered)
    → AreRegistered state found → MissesNone state article found → IsRising found
    → IsPermutation (filter (λ r. holds r.standing.tree article.fields) found) rs
    → IsSortedByKey (λ r. r.standing.id) bytes_cmp rs
    → map (alert_due article) rs ≡ alerts state.history article
alerts_are_due state article found rs registered misses_none rising moved sorted =
    sym (map-map (alert_of article) with_id rs)
    ∙ ap (map (alert_of article)) (due state article found rs registered misses_none rising moved sorted)
