-- Jobs and merges as their fields hold them.
use Rattle.std.specs.Prelude.{◌≡◌, ℕ, ◌+◌, ◌<◌, ◌≤◌, Bool, List, ◌++◌, map, filter, length, take, drop, Contains}
use Rattle.std.specs.Prelude.{IsTrue}
use Rattle.std.specs.Arc.{arc_value}
use Rattle.clip_indexed.specs.Segment.{IsRising, all_entries}
use Rattle.clip_indexed.specs.declared.segment.TheConstants.{MOST_POSITIONS}
use Rattle.clip_indexed.specs.Selecting.{kept_of}
use Rattle.clip_model.specs.History.{Registered, is_live}
use Rattle.clip_registry.specs.Merging.{Job, Merge, shelf}
use Rattle.clip_registry.specs.RegistryState.{RegistryState}
use Rattle.clip_registry.specs.Steps.LiveFlags.{flags_by, flags_of}
use Rattle.clip_registry.specs.declared.merging.MergeJob.TheInside as job
use Rattle.clip_registry.specs.declared.merging.Merged.TheInside as merged

abbrev pub job_inside : {I : Type 0} → job.Inside I → Job
job_inside j = record {
  sources = map arc_value j.sources.items;
  live = map (λ r. r.seq) (kept_of (map arc_value j.sources.items) j.flags.items);
}

-- There are sources, their seqs rise, their entries are flagged by a test of their seqs, and not too many are.
pub record IsJob (sources : List (List Registered)) (flags : List (List Bool)) : Type 0 where
  pub some : 0 < length sources
  pub rising : IsRising (all_entries sources)
  pub is : ℕ → Bool
  pub flagged : flags ≡ flags_by is sources
  pub short : length (filter (λ r. is r.seq) (all_entries sources)) ≤ MOST_POSITIONS

abbrev pub IsJobInside : {I : Type 0} → job.Inside I → Type 0
IsJobInside j = IsJob (map arc_value j.sources.items) j.flags.items

abbrev pub merged_inside : {I : Type 0} → merged.Inside I → Merge
merged_inside m = record { sources = map arc_value m.sources.items; entries = m.segment.value }

-- There are sources, their seqs rise, their entries are flagged by a test of their seqs, and those are in the merge,
-- where all are flagged.
pub record IsMerged (flags : List (List Bool)) (live : List Bool) (m : Merge) : Type 0 where
  pub some : 0 < length m.sources
  pub rising : IsRising (all_entries m.sources)
  pub is : ℕ → Bool
  pub flagged : flags ≡ flags_by is m.sources
  pub picked : m.entries ≡ filter (λ r. is r.seq) (all_entries m.sources)
  pub all : live ≡ flags_of is m.entries

abbrev pub IsMergedInside : {I : Type 0} → merged.Inside I → Type 0
IsMergedInside m = IsMerged m.flags.items m.live (merged_inside m)

-- the segments, with these entries in the place of so many neighbours
abbrev pub replaced : List (List Registered) → ℕ → ℕ → List Registered → List (List Registered)
replaced segments first count entries = take first segments ++ shelf entries ++ drop (first + count) segments

-- The seqs of these segments rise, their entries are some of the registry's, and each of those that is live is among
-- them.
pub record AreKept (state : RegistryState) (segments : List (List Registered)) : Type 0 where
  pub rising : IsRising (all_entries segments)
  pub some : (r : Registered) → Contains (all_entries segments) r → Contains (all_entries state.segments) r
  pub live : (r : Registered) → Contains (all_entries state.segments) r → IsTrue (is_live state.history r.seq)
      → Contains (all_entries segments) r
