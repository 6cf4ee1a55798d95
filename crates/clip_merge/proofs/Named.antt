-- The entries of segments, and those of them whose seqs are named.
use Rattle.std.proofs.Common.{◌≡◌, ℕ, ◌+◌, ◌<◌, ◌≤◌, Bool, true, false, cond, List, [], ◌∷◌, ◌++◌, length, map, refl}
use Rattle.std.proofs.Common.{sym, ap, ◌∙◌, arith}
use Rattle.std.proofs.lemmas.List.{length-append, length-map}
use Rattle.std.proofs.lemmas.List.Elements.{filter-append}
use Rattle.std.proofs.lemmas.List.Kept.{AllPairs-filter}
use Rattle.std.proofs.lemmas.List.Sums.{count_by-le-length, length-filter, sum_by-cons}
use Rattle.std.specs.List.{count_by}
use Rattle.clip_indexed.specs.Selecting.{AreFlagsOf, count_set, flagged, kept_of}
use Rattle.clip_model.specs.History.{Registered}
use Rattle.clip_indexed.specs.Segment.{IsRising, all_entries, seqs_of}
use Rattle.clip_merge.specs.Live.{named, names}

pub named_rising : (live : List ℕ) (entries : List Registered) → IsRising entries → IsRising (named live entries)
named_rising live entries is =
    record { rises = AllPairs-filter (λ e f. e.seq < f.seq) (λ r. names live r.seq) entries is.rises }

pub named_fewer : (live : List ℕ) (entries : List Registered) → length (named live entries) ≤ length entries
named_fewer live entries =
    omega (
      arith,
      length-filter (λ (r : Registered). names live r.seq) entries,
      count_by-le-length (λ (r : Registered). names live r.seq) entries,
    )

-- ---- flags

-- for each entry, whether it is named
abbrev pub flags_in : List ℕ → List Registered → List Bool
flags_in live segment = map (names live) (seqs_of segment)

abbrev pub flags_of : List ℕ → List (List Registered) → List (List Bool)
flags_of live segments = map (flags_in live) segments

flagged_named : (live : List ℕ) (es : List Registered) → flagged (flags_in live es) es ≡ named live es
flagged_named live [] = refl
flagged_named live (e ∷ es) =
    let later = flagged_named live es in
    elim (names live e.seq) as (λ b. cond b (e ∷ flagged (flags_in live es) es) (flagged (flags_in live es) es)
    ≡ cond b (e ∷ named live es) (named live es)) [
      | true ↦ ap (λ xs. e ∷ xs) later
      | false ↦ later
    ]

-- the entries that are kept by the flags are those that are named
pub kept_named : (live : List ℕ) (segments : List (List Registered)) → kept_of segments (flags_of live segments)
    ≡ named live (all_entries segments)
kept_named live [] = refl
kept_named live (segment ∷ segments) =
    ap (λ xs. xs ++ kept_of segments (flags_of live segments)) (flagged_named live segment)
    ∙ ap (λ xs. named live segment ++ xs) (kept_named live segments)
    ∙ sym (filter-append (λ (r : Registered). names live r.seq) segment (all_entries segments))

pub flags_each : (live : List ℕ) (segments : List (List Registered)) → AreFlagsOf segments (flags_of live segments)
flags_each live [] = refl
flags_each live (segment ∷ segments) =
    let long : length (flags_in live segment) ≡ length segment = length-map (seqs_of segment) (names live)
    ∙ length-map segment (λ (e : Registered). e.seq) in
    λ i. long i ∷ flags_each live segments i

count_in : (live : List ℕ) (es : List Registered) → count_by (λ (flag : Bool). flag) (flags_in live es)
    ≡ length (named live es)
count_in live es = counted es ∙ sym (length-filter (λ (r : Registered). names live r.seq) es) where
  counted : (es : List Registered) → count_by (λ (flag : Bool). flag) (flags_in live es)
      ≡ count_by (λ (r : Registered). names live r.seq) es
  counted [] = refl
  counted (e ∷ es) =
      sum_by-cons (λ (flag : Bool). cond flag 1 0) (names live e.seq) (flags_in live es)
      ∙ ap (λ n. cond (names live e.seq) 1 0 + n) (counted es)
      ∙ sym (sum_by-cons (λ (r : Registered). cond (names live r.seq) 1 0) e es)

-- and there are as many of them as flags are set
pub count_named : (live : List ℕ) (segments : List (List Registered)) → count_set (flags_of live segments)
    ≡ length (named live (all_entries segments))
count_named live [] = refl
count_named live (segment ∷ segments) =
    omega (
      arith,
      sum_by-cons (count_by (λ (flag : Bool). flag)) (flags_in live segment) (flags_of live segments),
      count_in live segment,
      count_named live segments,
      ap length (filter-append (λ (r : Registered). names live r.seq) segment (all_entries segments)),
      length-append (named live segment) (named live (all_entries segments)),
    )
