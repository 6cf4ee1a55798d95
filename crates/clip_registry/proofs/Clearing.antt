-- The flags of a merge's segment, of which those are cleared whose entries died.
use Rattle.std.proofs.Common.{◌≡◌, ℕ, zero, suc, ◌+◌, ◌-◌, ◌<◌, ◌≤◌, Bool, true, false, cond, not, ◌&&◌, ◌||◌, ◌==◌}
use Rattle.std.proofs.Common.{List, [], ◌∷◌, ◌++◌, length, map, take, get_or, replicate, refl, sym, ap, ap₂, ◌∙◌}
use Rattle.std.proofs.Common.{arith, append-nil}
use Rattle.std.proofs.Math.Seq.{take-length}
use Rattle.std.proofs.lemmas.Bool.{false≢true}
use Rattle.std.proofs.lemmas.List.{get_or-map, get_or_default, map-append, take_more}
use Rattle.std.proofs.lemmas.List.Elements.{filter-append}
use Rattle.std.specs.List.{Contains}
use Rattle.clip_pieces.specs.Marked.{is_lost}
use Rattle.clip_indexed.specs.Segment.{all_entries, seqs_of}
use Rattle.clip_merge.specs.Live.{names}
use Rattle.clip_model.specs.History.{Registered}
use Rattle.clip_registry.specs.Steps.LiveFlags.{died, flags_of, without, without_all}
use Rattle.clip_registry.proofs.Kept.{contains_of_filter}
use Rattle.clip_registry.proofs.LiveFlags.{alike_of, all_flagged}
use Rattle.clip_registry.proofs.Naming.{name_picked}
use Rattle.clip_registry.proofs.Picked.{picked}
use Rattle.clip_registry.proofs.Whole.{entries_more}

-- ---- entries that died

died-append : (is was : ℕ → Bool) (es fs : List Registered) → died is was (es ++ fs) ≡ died is was es ++ died is was fs
died-append is was es fs = filter-append (λ (r : Registered). was r.seq && not (is r.seq)) es fs

lost_died : (is was : ℕ → Bool) (es : List Registered) (place : ℕ) (r : Registered) → place < length es
    → is_lost (flags_of was es) (flags_of is es) place
    ≡ (was (get_or es place r).seq && not (is (get_or es place r).seq))
lost_died is was es place r low =
    ap₂ (λ a b. a && not b) (get_or-map (λ (q : Registered). was q.seq) es place r false low)
    (get_or-map (λ (q : Registered). is q.seq) es place r false low)

-- where no flag is lost no entry died
none_died : (is was : ℕ → Bool) (es : List Registered) (from count : ℕ) → from + count ≤ length es
    → ((place : ℕ) → from ≤ place → place < from + count → is_lost (flags_of was es) (flags_of is es) place ≡ false)
    → died is was (take (from + count) es) ≡ died is was (take from es)
none_died is was es from zero within none = ap (λ n. died is was (take n es)) (omega arith)
none_died is was [] from (suc count) within none = absurd (omega arith)
none_died is was (e ∷ es) from (suc count) within none =
    let all = e ∷ es in
    let low : from + count < length all = omega arith in
    let next : from + suc count ≡ from + count + 1 = omega arith in
    let stays = sym (lost_died is was all (from + count) e low) ∙ none (from + count) (omega arith) (omega arith) in
    ap (λ n. died is was (take n all)) next
    ∙ ap (died is was) (take_more all (from + count) e low)
    ∙ died-append is was (take (from + count) all) (get_or all (from + count) e ∷ [])
    ∙ ap (λ b. died is was (take (from + count) all) ++ cond b (get_or all (from + count) e ∷ []) []) stays
    ∙ append-nil (died is was (take (from + count) all))
    ∙ none_died is was all from count (omega arith) (λ place after before. none place after (omega arith))

-- and up to one that is lost just its entry did
one_died : (is was : ℕ → Bool) (es : List Registered) (from place : ℕ) (r : Registered)
    → from ≤ place → place < length es
    → is_lost (flags_of was es) (flags_of is es) place ≡ true
    → ((k : ℕ) → from ≤ k → k < place → is_lost (flags_of was es) (flags_of is es) k ≡ false)
    → died is was (take (place + 1) es) ≡ died is was (take from es) ++ get_or es place r ∷ []
one_died is was es from place r after low lost none =
    let same : from + (place - from) ≡ place = omega arith in
    ap (died is was) (take_more es place r low)
    ∙ died-append is was (take place es) (get_or es place r ∷ [])
    ∙ ap₂ (λ ds b. ds ++ cond b (get_or es place r ∷ []) [])
    (ap (λ n. died is was (take n es)) (sym same)
    ∙ none_died is was es from (place - from) (omega arith) (λ k here before. none k here (omega arith)))
    (sym (lost_died is was es place r low) ∙ lost)

-- the seq of one lost flag more
pub one_more : (is was : ℕ → Bool) (es : List Registered) (from place seq : ℕ) → from ≤ place → place < length es
    → seq ≡ get_or (seqs_of es) place 0 → is_lost (flags_of was es) (flags_of is es) place ≡ true
    → ((k : ℕ) → from ≤ k → k < place → is_lost (flags_of was es) (flags_of is es) k ≡ false)
    → seqs_of (died is was (take (place + 1) es)) ≡ seqs_of (died is was (take from es)) ++ seq ∷ []
one_more is was [] from place seq after low at lost none = absurd (omega arith)
one_more is was (e ∷ es) from place seq after low at lost none =
    let all = e ∷ es in
    ap seqs_of (one_died is was all from place e after low lost none)
    ∙ map-append (λ (r : Registered). r.seq) (died is was (take from all)) (get_or all place e ∷ [])
    ∙ ap (λ s. seqs_of (died is was (take from all)) ++ s ∷ [])
    (sym (at ∙ get_or-map (λ (r : Registered). r.seq) all place e 0 low))

-- where no flag is lost from a place on, all that died stand before it
pub all_died : (is was : ℕ → Bool) (es : List Registered) (from : ℕ) → from ≤ length es
    → ((k : ℕ) → from ≤ k → is_lost (flags_of was es) (flags_of is es) k ≡ false)
    → died is was (take from es) ≡ died is was es
all_died is was es from within none =
    let whole : from + (length es - from) ≡ length es = omega arith in
    sym (none_died is was es from (length es - from) (omega arith) (λ k after before. none k after))
    ∙ ap (λ n. died is was (take n es)) whole ∙ ap (died is was) (take-length es)

-- the seqs of one segment more
pub died_more : {X : Type 0} (is was : ℕ → Bool) (f : X → List Registered) (xs : List X) (i : ℕ) (x : X)
    → i < length xs → x ≡ get_or xs i x
    → seqs_of (died is was (all_entries (map f (take (i + 1) xs))))
    ≡ seqs_of (died is was (all_entries (map f (take i xs)))) ++ seqs_of (died is was (f x))
died_more is was f xs i x lt at =
    ap (λ es. seqs_of (died is was es)) (entries_more f xs i x lt at)
    ∙ ap seqs_of (died-append is was (all_entries (map f (take i xs))) (f x))
    ∙ map-append (λ (r : Registered). r.seq) (died is was (all_entries (map f (take i xs)))) (died is was (f x))

-- ---- the flags of a merge

cleared_twice : (one later was : Bool) → cond later false (cond one false was) ≡ cond (one || later) false was
cleared_twice true true was = refl
cleared_twice true false was = refl
cleared_twice false later was = refl

without_named : (seqs : List ℕ) (is : ℕ → Bool) (seq : ℕ)
    → without_all seqs is seq ≡ cond (names seqs seq) false (is seq)
without_named [] is seq = refl
without_named (gone ∷ seqs) is seq =
    without_named seqs (without gone is) seq ∙ cleared_twice (gone == seq) (names seqs seq) (is seq)

lives : (now before : Bool) → before ≡ true → cond (before && not now) false before ≡ now
lives true true is = refl
lives false true is = refl
lives true false is = absurd (false≢true is)
lives false false is = absurd (false≢true is)

-- of the entries that were live the flags of those are left that still are
pub left_flags : (is was : ℕ → Bool) (es : List Registered)
    → flags_of (without_all (seqs_of (died is was es)) was) (picked was es) ≡ flags_of is (picked was es)
left_flags is was es =
    let rs = picked was es in
    let gone = seqs_of (died is was es) in
    let each : (r : Registered) → Contains rs r → without_all gone was r.seq ≡ is r.seq =
    λ r h. let of = contains_of_filter (λ (q : Registered). was q.seq) r es h in
    without_named gone was r.seq
    ∙ ap (λ b. cond b false (was r.seq)) (name_picked (λ seq. was seq && not (is seq)) es r of.0)
    ∙ lives (is r.seq) (was r.seq) of.1 in
    alike_of (without_all gone was) is rs
    (λ k d lt. each (get_or rs k d) (k, lt, get_or_default rs k (get_or rs k d) d lt))

-- and at first all are set
pub all_picked : (was : ℕ → Bool) (es : List Registered)
    → replicate (length (picked was es)) true ≡ flags_of was (picked was es)
all_picked was es =
    let rs = picked was es in
    all_flagged was rs (λ k d lt.
    (contains_of_filter (λ (q : Registered). was q.seq) (get_or rs k d) es
    (k, lt, get_or_default rs k (get_or rs k d) d lt)).1)
