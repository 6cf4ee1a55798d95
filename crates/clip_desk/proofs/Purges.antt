-- What a purge took away stays away.
use Rattle.std.proofs.Common.{◌≡◌, ℕ, ◌+◌, ◌<◌, ◌≤◌, Bool, true, false, cond, List, [], ◌∷◌, ◌++◌, length, map, filter}
use Rattle.std.proofs.Common.{take, drop, get_or, refl, sym, ap, subst, ◌∙◌, arith, length-append, take_all}
use Rattle.std.proofs.lemmas.List.{take-append-drop, take-take, take-append-le}
use Rattle.std.proofs.lemmas.List.Elements.{All-nil, All-cons, All-head, All-tail, All-append, All-push, All-weaker}
use Rattle.std.proofs.lemmas.List.Elements.{All-take, All-drop, All-map, All-filter}
use Rattle.std.specs.List.{All}
use Rattle.clip_indexed.specs.Segment.{all_entries}
use Rattle.clip_model.specs.History.{History, Command, Register, Delete, Clear, Registered, listed, is_live, replay}
use Rattle.clip_model.specs.History.{after_command, is_live_in, next_entry}
use Rattle.clip_model.proofs.Dead.{live_before}
use Rattle.clip_registry.specs.Merging.{IsInstalled, Merge, has_entries, live_of, purged, shelf}
use Rattle.clip_registry.specs.RegistryState.{RegistryState, numbered, segments_after, state_after, standing_after}
use Rattle.clip_registry.proofs.Rising.{numbered_high}
use Rattle.clip_desk.specs.Purges.{IsPurgedAt, WasNotDead}

-- ---- earlier places

listed_front : (front rest : History) → listed front ≤ listed (front ++ rest)
listed_front [] rest = omega arith
listed_front (e ∷ front) rest = let h = listed_front front rest in omega (arith, h)

listed_take : (n : ℕ) (h : History) → listed (take n h) ≤ listed h
listed_take n h = subst (λ (l : History). listed (take n h) ≤ listed l) (take-append-drop n h)
    (listed_front (take n h) (drop n h))

-- an entry that was not dead at one place was not dead at an earlier one
not_dead_before : (h : History) (n m : ℕ) → n ≤ m → (r : Registered) → WasNotDead (take m h) r
    → WasNotDead (take n h) r
not_dead_before h n m le r live given =
    let rest = drop n (take m h) in
    let parts : take n h ++ rest ≡ take m h = ap (λ (l : History). l ++ rest) (sym (take-take n m h le))
    ∙ take-append-drop n (take m h) in
    let more : listed (take n h) ≤ listed (take m h) =
    subst (λ (l : History). listed (take n h) ≤ listed l) parts (listed_front (take n h) rest) in
    live_before (take n h) rest r.seq given
    (subst (λ (l : History). is_live l r.seq ≡ true) (sym parts) (live (omega (arith, given, more))))

pub purged_before : (state : RegistryState) (n m : ℕ) → n ≤ m → IsPurgedAt state m → IsPurgedAt state n
purged_before state n m le is = (
  omega (arith, le, is.0),
  All-weaker (All (WasNotDead (take m state.history))) (All (WasNotDead (take n state.history)))
      (λ segment all. All-weaker (WasNotDead (take m state.history)) (WasNotDead (take n state.history))
      (λ r live. not_dead_before state.history n m le r live) segment all) state.segments is.1,
)

-- ---- at a purge

all_pass : (p : Registered → Bool) (rs : List Registered) → All (λ r. p r ≡ true) (filter p rs)
all_pass p [] = All-nil (λ r. p r ≡ true)
all_pass p (r ∷ rs) =
    elim (p r) as (λ b. p r ≡ b → All (λ r. p r ≡ true) (cond b (r ∷ filter p rs) (filter p rs))) [
      | true ↦ λ is. All-cons (λ r. p r ≡ true) r (filter p rs) is (all_pass p rs)
      | false ↦ λ is. all_pass p rs
    ] refl

-- of live entries none was dead
none_dead : (state : RegistryState) (rs : List Registered) → All (WasNotDead state.history) (live_of state rs)
none_dead state rs = All-weaker (λ r. is_live state.history r.seq ≡ true) (WasNotDead state.history)
    (λ r live given. live) (live_of state rs) (all_pass (λ r. is_live state.history r.seq) rs)

pub purged_here : (state : RegistryState) → IsPurgedAt (purged state) (length state.history)
purged_here state =
    let P : List Registered → Type 0 = All (WasNotDead state.history) in
    let all : All P (map (live_of state) state.segments) =
    All-map P (live_of state) state.segments (λ k d lt. none_dead state (get_or state.segments k d)) in (
      omega arith,
      subst (λ (h : History). All (All (WasNotDead h)) (purged state).segments)
          (sym (take_all (length state.history) state.history (omega arith)))
          (All-filter has_entries P (map (live_of state) state.segments) all),
    )

-- ---- after a command

segments_stay : (h : History) (n : ℕ) (segments : List (List Registered)) (command : Command)
    → All (All (WasNotDead (take n h))) segments
    → All (All (WasNotDead (take n h))) (segments_after segments (listed h) (replay h) command)
segments_stay h n segments (Register []) all = all
segments_stay h n segments (Register (s ∷ ss)) all =
    All-push (All (WasNotDead (take n h))) segments (standing_after (listed h) (s ∷ ss) (replay h)) all
    (All-filter (λ r. is_live_in (after_command (listed h) (Register (s ∷ ss)) (replay h)) r.seq)
    (WasNotDead (take n h)) (numbered (listed h) (s ∷ ss))
    (All-weaker (λ r. listed h < r.seq) (WasNotDead (take n h))
    (λ r high given. absurd (let low = listed_take n h in omega (arith, high, given, low)))
    (numbered (listed h) (s ∷ ss)) (numbered_high (listed h) (s ∷ ss))))
segments_stay h n segments (Delete ids) all = all
segments_stay h n segments Clear all = All-nil (All (WasNotDead (take n h)))

purged_still : (state : RegistryState) (caller : ℕ) (command : Command) (n : ℕ) → IsPurgedAt state n
    → IsPurgedAt (state_after state caller command) n
purged_still state caller command n is =
    let h = state.history in
    let e = next_entry h caller command in (
      omega (arith, is.0, length-append h (e ∷ [])),
      subst (λ (front : History). All (All (WasNotDead front)) (state_after state caller command).segments)
          (sym (take-append-le n h (e ∷ []) is.0)) (segments_stay h n state.segments command is.1),
    )

pub purged_after : (before after : RegistryState) (caller : ℕ) (command : Command) (n : ℕ)
    → after ≡ state_after before caller command → IsPurgedAt before n → IsPurgedAt after n
purged_after before after caller command n is was =
    subst (λ (s : RegistryState). IsPurgedAt s n) (sym is) (purged_still before caller command n was)

-- ---- after a merge

all_joined : (P : Registered → Type 0) (segments : List (List Registered)) → All (All P) segments
    → All P (all_entries segments)
all_joined P [] all = All-nil P
all_joined P (segment ∷ segments) all =
    All-append P segment (all_entries segments) (All-head (All P) segment segments all)
    (all_joined P segments (All-tail (All P) segment segments all))

all_shelved : (P : Registered → Type 0) (rs : List Registered) → All P rs → All (All P) (shelf rs)
all_shelved P [] all = All-nil (All P)
all_shelved P (r ∷ rs) all = All-cons (All P) (r ∷ rs) [] all (All-nil (All P))

-- a merge of some entries of its sources
pub purged_installed : (old new : RegistryState) (merge : Merge) (p : Registered → Bool) (n : ℕ)
    → IsInstalled old new merge → merge.entries ≡ filter p (all_entries merge.sources) → IsPurgedAt old n
    → IsPurgedAt new n
purged_installed old new merge p n is some was =
    let P : Registered → Type 0 = WasNotDead (take n old.history) in
    let count = length merge.sources in
    let sources : All (All P) merge.sources =
    subst (All (All P)) is.stood
    (All-take (All P) count (drop is.first old.segments) (All-drop (All P) is.first old.segments was.1)) in
    let before = take is.first old.segments in
    let middle = shelf merge.entries in
    let entries : All P merge.entries = subst (All P) (sym some)
    (All-filter p P (all_entries merge.sources) (all_joined P merge.sources sources)) in
    let after = drop (is.first + count) old.segments in
    let all : All (All P) new.segments =
    subst (All (All P)) (sym is.segments)
    (All-append (All P) (before ++ middle) after
    (All-append (All P) before middle (All-take (All P) is.first old.segments was.1)
    (all_shelved P merge.entries entries))
    (All-drop (All P) (is.first + count) old.segments was.1)) in
    subst (λ (h : History). (n ≤ length h) × All (All (WasNotDead (take n h))) new.segments) (sym is.history)
    (was.0, all)
