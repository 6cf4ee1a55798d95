-- A registry stays whole where its segments keep each live entry.
use Rattle.std.proofs.Common.{◌≡◌, ℕ, ◌+◌, ◌<◌, ◌≤◌, Bool, true, false, cond, List, [], ◌∷◌, ◌++◌, length, get_or, take}
use Rattle.std.proofs.Common.{drop, map, refl, sym, ap, subst, ◌∙◌, inl, inr, arith, IsTrue, append_assoc, append-nil}
use Rattle.std.proofs.lemmas.List.{take-append-drop, drop-drop, get_or_default, length-take, length-drop}
use Rattle.std.proofs.lemmas.List.Elements.{All-contains, Contains-append_left, Contains-append_right}
use Rattle.std.proofs.lemmas.List.Elements.{Contains-append_cases, filter-append}
use Rattle.std.specs.List.{All, Contains, filter}
use Rattle.clip_indexed.specs.Segment.{IsRising, all_entries}
use Rattle.clip_model.specs.History.{Registered, replay, listed, is_live}
use Rattle.clip_model.proofs.Live.{given_live}
use Rattle.clip_model.proofs.Numbering.{replay_numbered}
use Rattle.clip_merge.specs.Plan.{neighbours}
use Rattle.clip_registry.proofs.Entries.{all_entries-append}
use Rattle.clip_registry.specs.Merging.{StandsAt, has_entries, purged, shelf}
use Rattle.clip_registry.specs.RegistryState.{RegistryState, IsWhole}
use Rattle.clip_registry.specs.Steps.Merging.{AreKept, replaced}
use Rattle.clip_registry.specs.Steps.Roster.{Roster}
use Rattle.clip_registry.specs.Steps.State.{IsConsistent}
use Rattle.clip_registry.proofs.Rising.{Below, rising_cons, rising_head, rising_tail, rising_filter, contains_head}
use Rattle.clip_registry.proofs.Rising.{contains_later, contains_cases, contains_filter}
use Rattle.clip_registry.proofs.Whole.{shelved, whole_from}

-- the registry with other segments
abbrev pub with_segments : RegistryState → List (List Registered) → RegistryState
with_segments state segments = record state { segments = segments }

-- what holds of each element of a list holds of each of a list of some of them
pub all_of_some : (P : Registered → Type 0) (xs ys : List Registered) → All P xs
    → ((r : Registered) → Contains ys r → Contains xs r) → All P ys
all_of_some P xs ys all some =
    λ k d lt. All-contains P xs (get_or ys k d) all
    (some (get_or ys k d) (k, lt, get_or_default ys k (get_or ys k d) d lt))

pub whole_kept : (state : RegistryState) (segments : List (List Registered)) → IsWhole state → AreKept state segments
    → IsWhole (with_segments state segments)
whole_kept state segments whole kept =
    let before = shelved state (replay_numbered state.history) whole in
    whole_from (with_segments state segments) (record {
      rising = kept.rising;
      within = all_of_some (λ r. r.seq ≤ listed state.history) (all_entries state.segments) (all_entries segments)
          before.within kept.some;
      numbered = before.numbered;
      among = λ id r h. kept.live r (before.among id r h) (given_live (replay state.history) id r h);
    })

pub consistent_kept : (state : RegistryState) (roster : Roster) (counts : List ℕ) (segments : List (List Registered))
    → IsConsistent state roster counts → AreKept state segments
    → IsConsistent (with_segments state segments) roster counts
consistent_kept state roster counts segments is kept = record {
  whole = whole_kept state segments is.whole kept;
  legal = is.legal;
  registry = is.registry;
  listed = is.listed;
  callers = is.callers;
  numbers = is.numbers;
}

-- ---- some entries of a list

pub contains_of_filter : (p : Registered → Bool) (r : Registered) (rs : List Registered) → Contains (filter p rs) r
    → Contains rs r × (p r ≡ true)
contains_of_filter p r [] (k, lt, at) = absurd (omega arith)
contains_of_filter p r (q ∷ rs) h =
    elim (p q) as (λ b. p q ≡ b → Contains (cond b (q ∷ filter p rs) (filter p rs)) r
    → Contains (q ∷ rs) r × (p r ≡ true)) [
      | true ↦ λ e here. elim (contains_cases q r (filter p rs) here) [
        | inl same ↦ (subst (λ x. Contains (x ∷ rs) r) (sym same) (contains_head r rs), ap p (sym same) ∙ e)
        | inr later ↦ let rest = contains_of_filter p r rs later in (contains_later q r rs rest.0, rest.1)
      ]
      | false ↦ λ e later. let rest = contains_of_filter p r rs later in (contains_later q r rs rest.0, rest.1)
    ] refl h

-- the entries of the middle part are some of what was there
pub some_of_middle : (p : Registered → Bool) (xs ys zs : List Registered) (r : Registered)
    → Contains (xs ++ (filter p ys ++ zs)) r → Contains (xs ++ (ys ++ zs)) r
some_of_middle p xs ys zs r h =
    elim (Contains-append_cases xs (filter p ys ++ zs) r h) [
      | inl first ↦ Contains-append_left xs (ys ++ zs) r first
      | inr later ↦ Contains-append_right xs (ys ++ zs) r (elim (Contains-append_cases (filter p ys) zs r later) [
        | inl middle ↦ Contains-append_left ys zs r (contains_of_filter p r ys middle).0
        | inr last ↦ Contains-append_right ys zs r last
      ])
    ]

kept_of_middle : (p : Registered → Bool) (xs ys zs : List Registered) (r : Registered) → (Contains ys r → p r ≡ true)
    → Contains (xs ++ (ys ++ zs)) r → Contains (xs ++ (filter p ys ++ zs)) r
kept_of_middle p xs ys zs r passes h =
    elim (Contains-append_cases xs (ys ++ zs) r h) [
      | inl first ↦ Contains-append_left xs (filter p ys ++ zs) r first
      | inr later ↦ Contains-append_right xs (filter p ys ++ zs) r (elim (Contains-append_cases ys zs r later) [
        | inl middle ↦ Contains-append_left (filter p ys) zs r (contains_filter p r ys (passes middle) middle)
        | inr last ↦ Contains-append_right (filter p ys) zs r last
      ])
    ]

rising_front : (p : Registered → Bool) (ys zs : List Registered) → IsRising (ys ++ zs) → IsRising (filter p ys ++ zs)
rising_front p [] zs is = is
rising_front p (y ∷ ys) zs is =
    let rest = rising_front p ys zs (rising_tail y (ys ++ zs) is) in
    elim (p y) as (λ b. IsRising (cond b (y ∷ filter p ys) (filter p ys) ++ zs)) [
      | true ↦ rising_cons y (filter p ys ++ zs)
          (all_of_some (Below y) (ys ++ zs) (filter p ys ++ zs) (rising_head y (ys ++ zs) is)
          (λ r h. some_of_middle p [] ys zs r h)) rest
      | false ↦ rest
    ]

pub rising_middle : (p : Registered → Bool) (xs ys zs : List Registered) → IsRising (xs ++ (ys ++ zs))
    → IsRising (xs ++ (filter p ys ++ zs))
rising_middle p [] ys zs is = rising_front p ys zs is
rising_middle p (x ∷ xs) ys zs is =
    rising_cons x (xs ++ (filter p ys ++ zs))
    (all_of_some (Below x) (xs ++ (ys ++ zs)) (xs ++ (filter p ys ++ zs)) (rising_head x (xs ++ (ys ++ zs)) is)
    (λ r h. some_of_middle p xs ys zs r h))
    (rising_middle p xs ys zs (rising_tail x (xs ++ (ys ++ zs)) is))

-- ---- purging

entries_shown : (es : List Registered) (segments : List (List Registered))
    → all_entries (cond (has_entries es) (es ∷ segments) segments) ≡ es ++ all_entries segments
entries_shown [] segments = refl
entries_shown (e ∷ es) segments = refl

entries_filtered : (p : Registered → Bool) (segments : List (List Registered))
    → all_entries (filter has_entries (map (filter p) segments)) ≡ filter p (all_entries segments)
entries_filtered p [] = refl
entries_filtered p (s ∷ segments) =
    entries_shown (filter p s) (filter has_entries (map (filter p) segments))
    ∙ ap (λ es. filter p s ++ es) (entries_filtered p segments) ∙ sym (filter-append p s (all_entries segments))

pub kept_purged : (state : RegistryState) → IsWhole state → AreKept state (purged state).segments
kept_purged state whole =
    let live = λ (r : Registered). is_live state.history r.seq in
    let all = all_entries state.segments in
    let same = entries_filtered live state.segments in
    record {
      rising = subst IsRising (sym same) (rising_filter live all whole.rising);
      some = λ r h. (contains_of_filter live r all (subst (λ es. Contains es r) same h)).0;
      live = λ r h is. subst (λ es. Contains es r) (sym same) (contains_filter live r all is h);
    }

-- ---- installing

-- where segments stand as the sources there are as many
pub neighbours_there : (segments sources : List (List Registered)) (first : ℕ) → 0 < length sources
    → StandsAt segments sources first → first + length sources ≤ length segments
neighbours_there segments sources first some stands =
    let e = ap length stands in
    omega (arith, length-take (length sources) (drop first segments), length-drop first segments)

entries_apart : (segments : List (List Registered)) (first count : ℕ)
    → all_entries segments ≡ all_entries (take first segments)
    ++ (all_entries (neighbours segments first count) ++ all_entries (drop (first + count) segments))
entries_apart segments first count =
    ap all_entries (sym (take-append-drop first segments))
    ∙ all_entries-append (take first segments) (drop first segments)
    ∙ ap (λ es. all_entries (take first segments) ++ es)
    (ap all_entries (sym (take-append-drop count (drop first segments)))
    ∙ all_entries-append (take count (drop first segments)) (drop count (drop first segments))
    ∙ ap (λ ss. all_entries (neighbours segments first count) ++ all_entries ss) (drop-drop count first segments
    ∙ ap (λ k. drop k segments) (omega arith)))

entries_shelved : (es : List Registered) → all_entries (shelf es) ≡ es
entries_shelved [] = refl
entries_shelved (e ∷ es) = append-nil (e ∷ es)

entries_replaced : (segments : List (List Registered)) (first count : ℕ) (es : List Registered)
    → all_entries (replaced segments first count es) ≡ all_entries (take first segments)
    ++ (es ++ all_entries (drop (first + count) segments))
entries_replaced segments first count es =
    all_entries-append (take first segments ++ shelf es) (drop (first + count) segments)
    ∙ ap (λ x. x ++ all_entries (drop (first + count) segments)) (all_entries-append (take first segments) (shelf es)
    ∙ ap (λ x. all_entries (take first segments) ++ x) (entries_shelved es))
    ∙ append_assoc (all_entries (take first segments)) es (all_entries (drop (first + count) segments))

pub kept_replaced : (state : RegistryState) (sources : List (List Registered)) (first : ℕ) (p : Registered → Bool)
    → IsWhole state → StandsAt state.segments sources first
    → ((r : Registered) → Contains (all_entries sources) r → IsTrue (is_live state.history r.seq) → p r ≡ true)
    → AreKept state (replaced state.segments first (length sources) (filter p (all_entries sources)))
kept_replaced state sources first p whole stands complete =
    let before = all_entries (take first state.segments) in
    let after = all_entries (drop (first + length sources) state.segments) in
    let middle = all_entries sources in
    let was : all_entries state.segments ≡ before ++ (middle ++ after) =
    entries_apart state.segments first (length sources) ∙ ap (λ ss. before ++ (all_entries ss ++ after)) stands in
    let is = entries_replaced state.segments first (length sources) (filter p middle) in
    record {
      rising = subst IsRising (sym is) (rising_middle p before middle after (subst IsRising was whole.rising));
      some = λ r h. subst (λ es. Contains es r) (sym was)
          (some_of_middle p before middle after r (subst (λ es. Contains es r) is h));
      live = λ r h live. subst (λ es. Contains es r) (sym is)
          (kept_of_middle p before middle after r (λ among. complete r among live) (subst (λ es. Contains es r) was h));
    }
