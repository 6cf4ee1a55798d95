-- The registry stays whole.
use Rattle.std.proofs.Common.{◌≡◌, ◌↔◌, ℕ, Bool, suc, ◌+◌, ◌<◌, ◌≤◌, List, [], ◌∷◌, ◌++◌, length, refl, sym, ap, subst}
use Rattle.std.proofs.Common.{◌∙◌, map, take, get_or, inl, inr, arith, Some, IsTrue, append-nil, append_assoc, add-zero}
use Rattle.std.proofs.lemmas.List.{map_more}
use Rattle.std.proofs.lemmas.Option.{none-some}
use Rattle.std.proofs.lemmas.List.Elements.{All-nil, All-append, All-weaker, All-filter, Contains-append_left}
use Rattle.std.proofs.lemmas.List.Elements.{Contains-append_right}
use Rattle.std.specs.List.{All, Contains}
use Rattle.std.specs.FinMap as finite
use Rattle.std.specs.FinMap.{get-empty}
use Rattle.clip_words.specs.Order.{bytes_cmp}
use Rattle.clip_indexed.specs.Segment.{IsRising, all_entries}
use Rattle.clip_model.specs.Standing.{Standing}
use Rattle.clip_model.specs.History.{Command, Register, Delete, Clear, Registered, Registry, register_all, remove_all}
use Rattle.clip_model.specs.History.{after_command, replay, listed, lists, is_live_in, with_command, next_entry}
use Rattle.clip_model.proofs.Replay.{replays_on, listed_on}
use Rattle.clip_model.specs.Steps.Numbered.{IsNumbered}
use Rattle.clip_registry.specs.RegistryState.{RegistryState, IsWhole, numbered, standing_after, segments_after}
use Rattle.clip_registry.specs.RegistryState.{state_after, beginning}
use Rattle.clip_model.proofs.Live.{live_given, given_live}
use Rattle.clip_model.proofs.Numbering.{numbered_empty, numbered_register, numbered_removed, replay_numbered}
use Rattle.clip_registry.proofs.Registering.{insert_all-numbered, inserted_or_old, removed_was}
use Rattle.clip_registry.proofs.Rising.{rising_nil, rising_append, rising_filter, same_seq, numbered_rising}
use Rattle.clip_registry.proofs.Rising.{numbered_high, numbered_low, contains_filter}

pub all_entries-push : (segments : List (List Registered)) (segment : List Registered)
    → all_entries (segments ++ segment ∷ []) ≡ all_entries segments ++ segment
all_entries-push [] segment = append-nil segment
all_entries-push (s ∷ segments) segment = ap (λ x. s ++ x) (all_entries-push segments segment)
    ∙ sym (append_assoc s (all_entries segments) segment)

-- of one segment more
pub entries_more : {X : Type 0} (f : X → List Registered) (xs : List X) (i : ℕ) (x : X)
    → i < length xs → x ≡ get_or xs i x
    → all_entries (map f (take (i + 1) xs)) ≡ all_entries (map f (take i xs)) ++ f x
entries_more f xs i x lt at =
    ap all_entries (map_more f xs i x lt ∙ ap (λ z. map f (take i xs) ++ f z ∷ []) (sym at))
    ∙ all_entries-push (map f (take i xs)) (f x)

-- The entries rise, and those that the registry gives are among them.
pub record IsShelved (n : ℕ) (entries : List Registered) (m : Registry) : Type 0 where
  pub rising : IsRising entries
  pub within : All (λ r. r.seq ≤ n) entries
  pub numbered : IsNumbered n m
  pub among : (id : List ℕ) (r : Registered) → finite.get m id ≡ Some r → Contains entries r

-- then the live entries are exactly what the registry gives
pub live_entries : (n : ℕ) (entries : List Registered) (m : Registry) → IsShelved n entries m → (r : Registered)
    → (finite.get m r.standing.id ≡ Some r) ↔ (Contains entries r × IsTrue (is_live_in m r.seq))
live_entries n entries m is r = (
  λ h. (is.among r.standing.id r h, given_live m r.standing.id r h),
  λ (among, live).
      let at = live_given m r.seq live in
      let same : at.entry ≡ r = same_seq entries at.entry r is.rising (is.among at.id at.entry at.given) among at.is in
      let here : finite.get m at.id ≡ Some r = at.given ∙ ap (λ x. Some x) same in
      let id : r.standing.id ≡ at.id = is.numbered.keyed at.id r here in
      ap (finite.get m) id ∙ here,
)

pub shelved : (state : RegistryState) → IsNumbered (listed state.history) (replay state.history) → IsWhole state
    → IsShelved (listed state.history) (all_entries state.segments) (replay state.history)
shelved state is whole = record {
  rising = whole.rising;
  within = whole.within;
  numbered = is;
  among = λ id r h.
      let here : finite.get (replay state.history) r.standing.id ≡ Some r =
      ap (finite.get (replay state.history)) (is.keyed id r h) ∙ h in
      ((whole.live_entries r).0 here).0;
}

pub length-numbered : (n : ℕ) (ss : List Standing) → length (numbered n ss) ≡ length ss
length-numbered n [] = refl
length-numbered n (s ∷ ss) = ap suc (length-numbered (suc n) ss)

among_register : (n : ℕ) (ss : List Standing) (entries : List Registered) (m : Registry) → IsShelved n entries m
    → (id : List ℕ) (r : Registered)
    → finite.get (register_all n ss m) id ≡ Some r → Contains (entries ++ standing_after n ss m) r
among_register n ss entries m is id r h =
    elim (inserted_or_old (numbered n ss) m id r (ap (λ k. finite.get k id) (insert_all-numbered n ss m) ∙ h)) [
      | inl listed ↦ Contains-append_right entries (standing_after n ss m) r
          (contains_filter _ r (numbered n ss) (given_live (register_all n ss m) id r h) listed)
      | inr was ↦ Contains-append_left entries (standing_after n ss m) r (is.among id r was)
    ]

pub shelved_register : (n : ℕ) (ss : List Standing) (entries : List Registered) (m : Registry) → IsShelved n entries m
    → IsShelved (n + length ss) (entries ++ standing_after n ss m) (register_all n ss m)
shelved_register n ss entries m is = record {
  rising = rising_append n entries _ is.rising (rising_filter _ _ (numbered_rising n ss)) is.within
      (All-filter _ (λ r. n < r.seq) _ (numbered_high n ss));
  within = All-append (λ r. r.seq
      ≤ n + length ss) entries _
      (All-weaker (λ r. r.seq ≤ n) (λ r. r.seq ≤ n + length ss) (λ r h. omega arith) entries is.within)
      (All-filter _ (λ r. r.seq ≤ n + length ss) _ (numbered_low n ss));
  numbered = numbered_register n ss m is.numbered;
  among = among_register n ss entries m is;
}

pub shelved_delete : (n : ℕ) (ids : List (List ℕ)) (entries : List Registered) (m : Registry) → IsShelved n entries m
    → IsShelved n entries (remove_all ids m)
shelved_delete n ids entries m is = record {
  rising = is.rising;
  within = is.within;
  numbered = numbered_removed n ids m is.numbered;
  among = λ id r h. is.among id r (removed_was ids m id r h);
}

pub shelved_nothing : (n : ℕ) → IsShelved n [] finite.empty
shelved_nothing n = record {
  rising = rising_nil;
  within = All-nil (λ r. r.seq ≤ n);
  numbered = numbered_empty n;
  among = λ id r h. absurd (none-some _ (sym (get-empty bytes_cmp id) ∙ h));
}

same_count : (n : ℕ) (entries : List Registered) (m : Registry) → IsShelved n entries m → IsShelved (n + 0) entries m
same_count n entries m is = subst (λ k. IsShelved k entries m) (sym (add-zero n)) is

-- what a command leaves is shelved
pub shelved_after : (n : ℕ) (segments : List (List Registered)) (m : Registry) (command : Command)
    → IsShelved n (all_entries segments) m
    → IsShelved (n + lists command) (all_entries (segments_after segments n m command)) (after_command n command m)
shelved_after n segments m (Register []) is = same_count n (all_entries segments) m is
shelved_after n segments m (Register (s ∷ ss)) is =
    subst (λ entries. IsShelved (n + suc (length ss)) entries (register_all n (s ∷ ss) m))
    (sym (all_entries-push segments (standing_after n (s ∷ ss) m)))
    (shelved_register n (s ∷ ss) (all_entries segments) m is)
shelved_after n segments m (Delete ids) is = same_count n _ _ (shelved_delete n ids (all_entries segments) m is)
shelved_after n segments m Clear is = shelved_nothing (n + 0)

-- what is shelved is whole
pub whole_from : (state : RegistryState)
    → IsShelved (listed state.history) (all_entries state.segments) (replay state.history) → IsWhole state
whole_from state is = record {
  rising = is.rising;
  within = is.within;
  live_entries = live_entries _ _ _ is;
}

-- a whole registry stays whole after a command
pub whole_after : (state : RegistryState) (caller : ℕ) (command : Command) → IsWhole state
    → IsWhole (state_after state caller command)
whole_after state caller command whole =
    let e = next_entry state.history caller command in
    let left = shelved_after (listed state.history) state.segments (replay state.history) command
    (shelved state (replay_numbered state.history) whole) in
    whole_from (state_after state caller command)
    (subst (λ n. IsShelved n (all_entries (state_after state caller command).segments)
    (replay (with_command state.history caller command))) (sym (listed_on state.history e))
    (subst (λ m. IsShelved (listed state.history + lists command)
    (all_entries (state_after state caller command).segments) m) (sym (replays_on state.history e)) left))

pub whole_beginning : (keeps : Bool) → IsWhole (beginning keeps)
whole_beginning keeps = whole_from (beginning keeps) (shelved_nothing 0)
