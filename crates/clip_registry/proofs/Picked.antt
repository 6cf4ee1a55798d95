-- Entries that a test of their seqs picks, and how they are flagged.
use Rattle.std.proofs.Common.{◌≡◌, ℕ, ◌+◌, Bool, true, false, cond, List, [], ◌∷◌, ◌++◌, length, refl, sym, ap, ◌∙◌}
use Rattle.std.proofs.Common.{arith, inl, inr, replicate, subst}
use Rattle.std.proofs.lemmas.List.{length-append}
use Rattle.std.proofs.lemmas.List.Elements.{filter-append}
use Rattle.std.proofs.lemmas.List.Sums.{length-filter, sum_by-cons}
use Rattle.std.specs.List.{Contains, count_by, filter}
use Rattle.clip_indexed.specs.Segment.{IsRising, all_entries}
use Rattle.clip_indexed.specs.Selecting.{count_set, flagged, kept_of}
use Rattle.clip_model.specs.History.{Registered}
use Rattle.clip_registry.specs.Steps.LiveFlags.{flags_by, flags_of}
use Rattle.clip_registry.proofs.Kept.{all_of_some}
use Rattle.clip_registry.proofs.Rising.{Below, rising_nil, rising_cons, rising_head, rising_tail, contains_head}
use Rattle.clip_registry.proofs.Rising.{contains_later, contains_cases}

-- the entries whose seqs pass a test
abbrev pub picked : (ℕ → Bool) → List Registered → List Registered
picked is es = filter (λ r. is r.seq) es

pub flagged_by : (is : ℕ → Bool) (es : List Registered) → flagged (flags_of is es) es ≡ picked is es
flagged_by is [] = refl
flagged_by is (e ∷ es) =
    let rest = flagged_by is es in
    elim (is e.seq) as (λ b. cond b (e ∷ flagged (flags_of is es) es) (flagged (flags_of is es) es)
    ≡ cond b (e ∷ picked is es) (picked is es)) [
      | true ↦ ap (λ xs. e ∷ xs) rest
      | false ↦ rest
    ]

-- the entries that are kept by the flags are those that are picked
pub kept_by : (is : ℕ → Bool) (segments : List (List Registered))
    → kept_of segments (flags_by is segments) ≡ picked is (all_entries segments)
kept_by is [] = refl
kept_by is (segment ∷ segments) =
    ap (λ xs. xs ++ kept_of segments (flags_by is segments)) (flagged_by is segment)
    ∙ ap (λ xs. picked is segment ++ xs) (kept_by is segments)
    ∙ sym (filter-append (λ (r : Registered). is r.seq) segment (all_entries segments))

count_in : (is : ℕ → Bool) (es : List Registered)
    → count_by (λ (flag : Bool). flag) (flags_of is es) ≡ length (picked is es)
count_in is es = counted es ∙ sym (length-filter (λ (r : Registered). is r.seq) es) where
  counted : (es : List Registered)
      → count_by (λ (flag : Bool). flag) (flags_of is es) ≡ count_by (λ (r : Registered). is r.seq) es
  counted [] = refl
  counted (e ∷ es) =
      sum_by-cons (λ (flag : Bool). cond flag 1 0) (is e.seq) (flags_of is es)
      ∙ ap (λ n. cond (is e.seq) 1 0 + n) (counted es)
      ∙ sym (sum_by-cons (λ (r : Registered). cond (is r.seq) 1 0) e es)

-- and there are as many of them as flags are set
pub count_picked : (is : ℕ → Bool) (segments : List (List Registered))
    → count_set (flags_by is segments) ≡ length (picked is (all_entries segments))
count_picked is [] = refl
count_picked is (segment ∷ segments) =
    omega (
      arith,
      sum_by-cons (count_by (λ (flag : Bool). flag)) (flags_of is segment) (flags_by is segments),
      count_in is segment,
      count_picked is segments,
      ap length (filter-append (λ (r : Registered). is r.seq) segment (all_entries segments)),
      length-append (picked is segment) (picked is (all_entries segments)),
    )

-- ---- entries whose flags are set

pub flagged_all : (es : List Registered) → flagged (replicate (length es) true) es ≡ es
flagged_all [] = refl
flagged_all (e ∷ es) = ap (λ xs. e ∷ xs) (flagged_all es)

flagged_among : (flags : List Bool) (es : List Registered) (r : Registered) → Contains (flagged flags es) r
    → Contains es r
flagged_among [] es r (k, lt, at) = absurd (omega arith)
flagged_among (flag ∷ flags) [] r (k, lt, at) = absurd (omega arith)
flagged_among (true ∷ flags) (e ∷ es) r h =
    elim (contains_cases e r (flagged flags es) h) [
      | inl same ↦ subst (λ x. Contains (x ∷ es) r) (sym same) (contains_head r es)
      | inr later ↦ contains_later e r es (flagged_among flags es r later)
    ]
flagged_among (false ∷ flags) (e ∷ es) r h = contains_later e r es (flagged_among flags es r h)

pub rising_flagged : (flags : List Bool) (es : List Registered) → IsRising es → IsRising (flagged flags es)
rising_flagged [] es is = rising_nil
rising_flagged (flag ∷ flags) [] is = rising_nil
rising_flagged (true ∷ flags) (e ∷ es) is =
    rising_cons e (flagged flags es)
    (all_of_some (Below e) es (flagged flags es) (rising_head e es is) (flagged_among flags es))
    (rising_flagged flags es (rising_tail e es is))
rising_flagged (false ∷ flags) (e ∷ es) is = rising_flagged flags es (rising_tail e es is)
