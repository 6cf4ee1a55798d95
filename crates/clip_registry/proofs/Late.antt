-- A merge misses nothing, however late it is installed.
use Rattle.std.proofs.Common.{◌≡◌, ℕ, ◌+◌, ◌≤◌, true, [], ◌++◌, drop, length, length-take, length-drop, append-nil, sym}
use Rattle.std.proofs.Common.{ap, subst, ◌∙◌, inl, inr, arith, Bool}
use Rattle.std.proofs.lemmas.List.Elements.{All-contains}
use Rattle.std.specs.List.{Contains}
use Rattle.clip_merge.specs.Live.{names}
use Rattle.clip_merge.specs.Plan.{neighbours}
use Rattle.clip_indexed.specs.Segment.{all_entries}
use Rattle.clip_model.specs.declared.limits.TheConstants.{RUN_LENGTH}
use Rattle.clip_model.specs.History.{History, listed, is_live}
use Rattle.clip_model.proofs.Dead.{live_before}
use Rattle.clip_registry.specs.Merging.{IsBegun, IsOver, IsStale, IsTurnBegun, Job, LateMergesMissNothing, Misses}
use Rattle.clip_registry.specs.Merging.{live_of, merge_of}
use Rattle.clip_registry.specs.Merging.IsStale.{gone, misses}
use Rattle.clip_registry.specs.RegistryState.{RegistryState, IsWhole}
use Rattle.clip_registry.proofs.Counted.{neighbours_among}
use Rattle.clip_registry.proofs.Naming.{names_member}
use Rattle.clip_registry.proofs.Rising.{contains_filter}

-- an entry of the sources that is live when the merge is installed was live when the job was begun, so it is named
misses_nothing : (begun later : RegistryState) (more : History) (job : Job) (first past : ℕ) → IsWhole begun
    → IsOver begun job first past → later.history ≡ begun.history ++ more → Misses later (merge_of job) → ⊥
misses_nothing begun later more job first past whole is goes_on miss =
    let sources = all_entries job.sources in
    let count = length job.sources in
    let in_run : Contains (all_entries (neighbours begun.segments first count)) miss.entry =
    subst (λ ss. Contains (all_entries ss) miss.entry) (sym is.stands) miss.among in
    let given : miss.entry.seq ≤ listed begun.history =
    All-contains (λ r. r.seq ≤ listed begun.history) (all_entries begun.segments) miss.entry whole.within
    (neighbours_among begun.segments first count miss.entry in_run) in
    let live : is_live begun.history miss.entry.seq ≡ true =
    live_before begun.history more miss.entry.seq given
    (subst (λ (h : History). is_live h miss.entry.seq ≡ true) goes_on miss.live) in
    let member : Contains (live_of begun sources) miss.entry =
    contains_filter (λ r. is_live begun.history r.seq) miss.entry sources live miss.among in
    let name : names job.live miss.entry.seq ≡ true = ap (λ seqs. names seqs miss.entry.seq) is.live
    ∙ names_member (live_of begun sources) miss.entry member in
    miss.missing (contains_filter (λ r. names job.live r.seq) miss.entry sources name miss.among)

-- a job over a run is one over neighbours
pub over_of_begun : (state : RegistryState) (job : Job) (is : IsBegun state job)
    → IsOver state job is.first (is.first + RUN_LENGTH)
over_of_begun state job is =
    let there = is.oldest.run.there in
    let count : length job.sources ≡ RUN_LENGTH = let e = ap length is.sources in
    omega (arith, length-take RUN_LENGTH (drop is.first state.segments), length-drop is.first state.segments) in
    record {
      stands = ap (neighbours state.segments is.first) count ∙ sym is.sources;
      ends = ap (λ n. is.first + n) count;
      live = is.live;
    }

pub late_merges_miss_nothing : LateMergesMissNothing
late_merges_miss_nothing begun later more job to_one whole (inl is) goes_on miss =
    misses_nothing begun later more job is.first (is.first + RUN_LENGTH) whole (over_of_begun begun job is) goes_on miss
late_merges_miss_nothing begun later more job to_one whole (inr is) goes_on miss =
    misses_nothing begun later more job is.first is.past whole is.over goes_on miss

-- and one of a turn is not stale where it was begun
pub never_stale : (to_one : Bool) (state : RegistryState) (job : Job) → IsWhole state → IsTurnBegun to_one state job
    → IsStale state (merge_of job) → ⊥
never_stale to_one state job whole is (gone nowhere) = nowhere is.first is.over.stands
never_stale to_one state job whole is (misses miss) =
    late_merges_miss_nothing state state [] job to_one whole (inr is) (sym (append-nil state.history)) miss
