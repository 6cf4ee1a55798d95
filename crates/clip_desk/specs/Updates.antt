-- What update listeners are told of the registry, and what they have heard.
use Rattle.std.specs.Prelude.{◌≡◌, ℕ, ◌+◌, ◌≤◌, List, [], ◌∷◌, ◌++◌, length, map, filter, slice_get, Some}
use Rattle.std.specs.Prelude.{Bool, true, false, ◌⊎◌, refl}
use Rattle.std.specs.Coded.{Coded, code_by, coded×, coded⊎, coded_ℕ, coded_bool, coded_list}
use Rattle.std.proofs.Common.{inl, inr}
use mathlib.Core.List.{IsPrefix}
use Rattle.clip_model.specs.History.{Command, Register, Delete, Clear, History}

-- ---- events

-- What happened to the registry: queries of these ids were registered, these ids were deleted, all queries were taken
-- out, or what stood for nothing was cleared away.
pub data Event : Type 0 where
  Updated : List (List ℕ) → Event
  Deleted : List (List ℕ) → Event
  Cleared : Event
  Purged : Event

-- what a command tells: its ids, as it lists them
abbrev pub event_of : Command → Event
event_of (Register standings) = Updated (map (λ s. s.id) standings)
event_of (Delete ids) = Deleted ids
event_of Clear = Cleared

-- one event for each entry, in order
abbrev pub events_of : History → List Event
events_of h = map (λ e. event_of e.command) h

-- a command tells it
abbrev pub is_of_command : Event → Bool
is_of_command (Updated ids) = true
is_of_command (Deleted ids) = true
is_of_command Cleared = true
is_of_command Purged = false

-- the events, with those of purges left out
abbrev pub without_purges : List Event → List Event
without_purges events = filter is_of_command events

-- a purge tells it
abbrev pub is_of_purge : Event → Bool
is_of_purge (Updated ids) = false
is_of_purge (Deleted ids) = false
is_of_purge Cleared = false
is_of_purge Purged = true

-- how many of the events a purge told
abbrev pub purges_in : List Event → ℕ
purges_in events = length (filter is_of_purge events)

-- ---- listeners

-- what a listener has heard, and whether it missed an event
pub record Heard : Type 0 where
  pub events : List Event
  pub missed : Bool

-- A listener before and after an event: it hears it or misses it; one that missed one already is told nothing.
pub data IsTold (event : Event) (h w : Heard) : Type 0 where
  hears : h.missed ≡ false → w ≡ record { events = h.events ++ event ∷ []; missed = false } → IsTold event h w
  misses : h.missed ≡ false → w ≡ record { events = h.events; missed = true } → IsTold event h w
  is_passed : h.missed ≡ true → w ≡ h → IsTold event h w

-- each listener is told the event
pub record AreTold (event : Event) (before after : List Heard) : Type 0 where
  pub same : length after ≡ length before
  pub each : (k : ℕ) (h w : Heard) → slice_get before k ≡ Some h → slice_get after k ≡ Some w → IsTold event h w

-- The listener had heard these before. It has then heard, purges left out, one event for each entry of the history, and
-- just so many of purges; one that missed an event has heard some first ones of the former, and no more of the latter.
pub record Follows (before : List Event) (history : History) (purges : ℕ) (h : Heard) : Type 0 where
  pub whole : h.missed ≡ false → without_purges h.events ≡ without_purges before ++ events_of history
  pub front : IsPrefix (without_purges h.events) (without_purges before ++ events_of history)
  pub purged : h.missed ≡ false → purges_in h.events ≡ purges_in before + purges
  pub no_more : purges_in h.events ≤ purges_in before + purges

-- There are as many listeners as before, and each follows, where before has what the one in each place had heard.
pub record AllFollow (before : List (List Event)) (history : History) (purges : ℕ) (all : List Heard) : Type 0 where
  pub same : length all ≡ length before
  pub each : (k : ℕ) (b : List Event) (h : Heard) → slice_get before k ≡ Some b → slice_get all k ≡ Some h
      → Follows b history purges h

-- what each listener has heard
abbrev pub all_heard : List Heard → List (List Event)
all_heard all = map (λ h. h.events) all

-- ---- what the values of the code say

-- a listener with its mark, by what the listener has heard
abbrev pub heard_by : {L : Type 0} → (L → List Event) → L × Bool → Heard
heard_by heard part = record { events = heard part.0; missed = part.1 }

-- listeners that missed nothing yet
abbrev pub unmarked : {L : Type 0} → (L → List Event) → List L → List Heard
unmarked heard listeners = map (λ l. record { events = heard l; missed = false }) listeners

-- ---- codes

abbrev event_parts : Event → List (List ℕ) ⊎ (List (List ℕ) ⊎ Bool)
event_parts (Updated ids) = inl ids
event_parts (Deleted ids) = inr (inl ids)
event_parts Cleared = inr (inr true)
event_parts Purged = inr (inr false)

abbrev event_made : List (List ℕ) ⊎ (List (List ℕ) ⊎ Bool) → Event
event_made (inl ids) = Updated ids
event_made (inr (inl ids)) = Deleted ids
event_made (inr (inr true)) = Cleared
event_made (inr (inr false)) = Purged

pub event_again : (e : Event) → event_made (event_parts e) ≡ e
event_again (Updated ids) = refl
event_again (Deleted ids) = refl
event_again Cleared = refl
event_again Purged = refl

abbrev pub event_code : Coded Event
event_code =
    code_by (List (List ℕ) ⊎ (List (List ℕ) ⊎ Bool))
    (coded⊎ (coded_list (coded_list coded_ℕ)) (coded⊎ (coded_list (coded_list coded_ℕ)) coded_bool)) event_parts
    event_made event_again

abbrev pub heard_code : Coded Heard
heard_code = code_by (List Event × Bool) (coded× (coded_list event_code) coded_bool) (λ h. (h.events, h.missed))
    (λ p. record { events = p.0; missed = p.1 }) (λ _. refl)
