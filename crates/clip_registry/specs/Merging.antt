-- Merges: what a job and a merge hold, and what installing and purging do.
use Rattle.std.specs.Prelude.{◌≡◌, ◌⊎◌, ℕ, ◌+◌, Bool, true, false, List, [], ◌∷◌, ◌++◌, map, filter, length, take, drop}
use Rattle.std.specs.Prelude.{Contains, IsTrue, refl}
use Rattle.std.specs.Coded.{Coded, code_by, coded×, coded_ℕ, coded_list}
use Rattle.clip_model.specs.History.{History, Registered, registered_code, is_live}
use Rattle.clip_indexed.specs.Segment.{all_entries}
use Rattle.clip_merge.specs.Live.{named}
use Rattle.clip_merge.specs.Plan.{IsOldestRun, IsTurn, neighbours, run_at}
use Rattle.clip_registry.specs.RegistryState.{RegistryState, IsWhole}

-- ---- jobs

-- neighbouring segments, and the seqs of their entries that were live when the job was begun
pub record Job : Type 0 where
  pub sources : List (List Registered)
  pub live : List ℕ

abbrev pub job_code : Coded Job
job_code = code_by (List (List Registered) × List ℕ)
    (coded× (coded_list (coded_list registered_code)) (coded_list coded_ℕ)) (λ j. (j.sources, j.live))
    (λ p. record { sources = p.0; live = p.1 }) (λ _. refl)

-- the entries that are live in the registry
abbrev pub live_of : RegistryState → List Registered → List Registered
live_of state entries = filter (λ r. is_live state.history r.seq) entries

-- from this place on the segments are the sources
abbrev pub StandsAt : List (List Registered) → List (List Registered) → ℕ → Type 0
StandsAt segments sources first = neighbours segments first (length sources) ≡ sources

-- The job is over the oldest run of the registry, and holds which of its entries are live.
pub record IsBegun (state : RegistryState) (job : Job) : Type 0 where
  pub first : ℕ
  pub oldest : IsOldestRun state.segments first
  pub sources : job.sources ≡ run_at state.segments first
  pub live : job.live ≡ map (λ r. r.seq) (live_of state (all_entries job.sources))

-- The job is over neighbours of the registry, and holds which of their entries are live.
pub record IsOver (state : RegistryState) (job : Job) (first past : ℕ) : Type 0 where
  pub stands : StandsAt state.segments job.sources first
  pub ends : first + length job.sources ≡ past
  pub live : job.live ≡ map (λ r. r.seq) (live_of state (all_entries job.sources))

-- The job is over the neighbours that a merge turn merges, to one segment or not.
pub record IsTurnBegun (to_one : Bool) (state : RegistryState) (job : Job) : Type 0 where
  pub first : ℕ
  pub past : ℕ
  pub turn : IsTurn to_one state.segments first past
  pub over : IsOver state job first past

-- ---- merges

-- the sources of a merge, and the entries of theirs that it has
pub record Merge : Type 0 where
  pub sources : List (List Registered)
  pub entries : List Registered

abbrev pub merge_code : Coded Merge
merge_code = code_by (List (List Registered) × List Registered)
    (coded× (coded_list (coded_list registered_code)) (coded_list registered_code)) (λ m. (m.sources, m.entries))
    (λ p. record { sources = p.0; entries = p.1 }) (λ _. refl)

-- what a job gives: the entries of its sources that were live when it was begun
abbrev pub merge_of : Job → Merge
merge_of job = record { sources = job.sources; entries = named job.live (all_entries job.sources) }

-- ---- installing

-- an entry of the sources that is live in the registry is not in the merge
pub record Misses (state : RegistryState) (merge : Merge) : Type 0 where
  pub entry : Registered
  pub among : Contains (all_entries merge.sources) entry
  pub live : IsTrue (is_live state.history entry.seq)
  pub missing : Contains merge.entries entry → ⊥

-- The sources stand nowhere, or a live entry of theirs is missing.
pub data IsStale (state : RegistryState) (merge : Merge) : Type 0 where
  gone : ((first : ℕ) → StandsAt state.segments merge.sources first → ⊥) → IsStale state merge
  misses : Misses state merge → IsStale state merge

-- a segment in its place, or none where it has no entries
abbrev pub shelf : List Registered → List (List Registered)
shelf [] = []
shelf (r ∷ rs) = (r ∷ rs) ∷ []

-- The sources stood, no live entry of theirs was missing, and the merge is in their place.
pub record IsInstalled (old new : RegistryState) (merge : Merge) : Type 0 where
  pub first : ℕ
  pub stood : StandsAt old.segments merge.sources first
  pub complete : Misses old merge → ⊥
  pub segments : new.segments
      ≡ take first old.segments ++ shelf merge.entries ++ drop (first + length merge.sources) old.segments
  pub history : new.history ≡ old.history
  pub keeps : new.keeps ≡ old.keeps

-- ---- purging

abbrev pub has_entries : List Registered → Bool
has_entries [] = false
has_entries (r ∷ rs) = true

-- each segment with just its live entries, and none that is empty
abbrev pub purged : RegistryState → RegistryState
purged state = record state { segments = filter has_entries (map (live_of state) state.segments) }

-- ---- late merges

-- However the history went on since a job was begun, its merge misses no live entry.
abbrev pub LateMergesMissNothing : Type 0
LateMergesMissNothing = (begun later : RegistryState) (more : History) (job : Job) (to_one : Bool) → IsWhole begun
    → IsBegun begun job ⊎ IsTurnBegun to_one begun job → later.history ≡ begun.history ++ more
    → Misses later (merge_of job) → ⊥
