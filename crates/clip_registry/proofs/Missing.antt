-- Whether a merge misses live entries.
use Rattle.std.proofs.Common.{◌≡◌, ℕ, Bool, true, false, ◌&&◌, ◌||◌, not, List, [], ◌∷◌, length, refl, sym, ap, subst}
use Rattle.std.proofs.Common.{◌∙◌}
use Rattle.std.proofs.lemmas.Bool.{false≢true}
use Rattle.std.proofs.lemmas.List.Elements.{All-contains}
use Rattle.std.proofs.lemmas.List.Folds.{list_all-append}
use Rattle.std.proofs.lemmas.List.Sums.{AllPass-from_list_all}
use Rattle.std.specs.List.{Contains, list_all}
use Rattle.clip_indexed.specs.Segment.{all_entries}
use Rattle.clip_model.specs.History.{Registered, Registry, replay, is_live_in}
use Rattle.clip_registry.specs.Merging.{Merge, Misses, StandsAt}
use Rattle.clip_registry.specs.RegistryState.{RegistryState, IsWhole}
use Rattle.clip_registry.specs.Steps.Merging.{AreKept, IsMerged, replaced}
use Rattle.clip_registry.specs.Steps.LiveFlags.{stays}
use Rattle.clip_registry.proofs.Kept.{contains_of_filter, kept_replaced}
use Rattle.clip_registry.proofs.Rising.{contains_head, contains_later, contains_filter}

-- a test of all entries is one of the entries of each segment
pub list_all-all_entries : (p : Registered → Bool) (segments : List (List Registered))
    → list_all p (all_entries segments) ≡ list_all (list_all p) segments
list_all-all_entries p [] = refl
list_all-all_entries p (s ∷ segments) = list_all-append p s (all_entries segments)
    ∙ ap (λ b. list_all p s && b) (list_all-all_entries p segments)

was_if_live : (is was : ℕ → Bool) (es : List Registered) → list_all (stays is was) es ≡ true
    → (r : Registered) → Contains es r → is r.seq ≡ true → was r.seq ≡ true
was_if_live is was es all r among live =
    let passes : stays is was r ≡ true =
    All-contains (λ x. stays is was x ≡ true) es r (AllPass-from_list_all (stays is was) es all) among in
    subst (λ l. (not l || was r.seq) ≡ true) live passes

-- an entry that fails a test
record Fails (p : Registered → Bool) (es : List Registered) : Type 0 where
  entry : Registered
  among : Contains es entry
  fails : p entry ≡ false

first_failing : (p : Registered → Bool) (es : List Registered) → list_all p es ≡ false → Fails p es
first_failing p [] h = absurd (false≢true (sym h))
first_failing p (e ∷ es) h =
    elim (p e) as (λ b. p e ≡ b → (b && list_all p es) ≡ false → Fails p (e ∷ es)) [
      | true ↦ λ _ later. let rest = first_failing p es later in
          record { entry = rest.entry; among = contains_later e rest.entry es rest.among; fails = rest.fails }
      | false ↦ λ here _. record { entry = e; among = contains_head e es; fails = here }
    ] refl h

live_unnamed : (l n : Bool) → (not l || n) ≡ false → (l ≡ true) × (n ≡ false)
live_unnamed true n h = (refl, h)
live_unnamed false n h = absurd (false≢true (sym h))

module _ (state : RegistryState) (merge : Merge) (m : Registry) (flags : List (List Bool)) (live : List Bool)
    (is : IsMerged flags live merge)
    (registry : m ≡ replay state.history) where
  -- a merge that passes the test misses none
  pub misses_none : list_all (stays (is_live_in m) is.is) (all_entries merge.sources) ≡ true → Misses state merge → ⊥
  misses_none all miss =
      let live : is_live_in m miss.entry.seq ≡ true =
      subst (λ k. is_live_in k miss.entry.seq ≡ true) (sym registry) miss.live in
      let was = was_if_live (is_live_in m) is.is (all_entries merge.sources) all miss.entry miss.among live in
      miss.missing
      (subst (λ es. Contains es miss.entry) (sym is.picked)
      (contains_filter (λ (r : Registered). is.is r.seq) miss.entry (all_entries merge.sources) was miss.among))

  pub kept_merge : (first : ℕ) → list_all (stays (is_live_in m) is.is) (all_entries merge.sources) ≡ true
      → IsWhole state → StandsAt state.segments merge.sources first
      → AreKept state (replaced state.segments first (length merge.sources) merge.entries)
  kept_merge first all whole stands =
      subst (λ es. AreKept state (replaced state.segments first (length merge.sources) es)) (sym is.picked)
      (kept_replaced state merge.sources first (λ (r : Registered). is.is r.seq) whole stands
      (λ r among live. was_if_live (is_live_in m) is.is (all_entries merge.sources) all r among
      (subst (λ k. is_live_in k r.seq ≡ true) (sym registry) live)))

  -- and one that fails it misses one
  pub misses_one : list_all (stays (is_live_in m) is.is) (all_entries merge.sources) ≡ false → Misses state merge
  misses_one some =
      let bad = first_failing (stays (is_live_in m) is.is) (all_entries merge.sources) some in
      let both = live_unnamed (is_live_in m bad.entry.seq) (is.is bad.entry.seq) bad.fails in
      record {
        entry = bad.entry;
        among = bad.among;
        live = subst (λ k. is_live_in k bad.entry.seq ≡ true) registry both.0;
        missing = λ h. false≢true (sym both.1
            ∙ (contains_of_filter (λ (r : Registered). is.is r.seq) bad.entry (all_entries merge.sources)
            (subst (λ es. Contains es bad.entry) is.picked h)).1);
      }
