-- Live flags beside segments.
use Rattle.std.proofs.Common.{◌≡◌, ℕ, zero, suc, ◌<◌, Bool, true, false, cond, ◌==◌, List, [], ◌∷◌, ◌++◌, length}
use Rattle.std.proofs.Common.{map, get_or, set, take, replicate, ◌+◌, Some, slice_get, refl, sym, ap, ap₂, subst, ◌∙◌}
use Rattle.std.proofs.Common.{inl}
use Rattle.std.proofs.Common.{inr, arith}
use Rattle.std.proofs.lemmas.Bool.{cases_order}
use Rattle.std.proofs.lemmas.List.{ext_get_or, length-map, get_or-map, get_or_default, map-append}
use Rattle.std.proofs.lemmas.List.Elements.{All-head, All-tail, Contains-append_left, Contains-append_right}
use Rattle.std.proofs.lemmas.Option.{slice_get_within, get_or_from_slice_get}
use Rattle.std.specs.Arc.{arc_value}
use Rattle.std.specs.declared.sync.Arc.{Arc}
use Rattle.std.specs.declared.alloc.Global.{Global}
use Rattle.std.specs.List.{All, Contains}
use Rattle.clip_indexed.specs.Segment.{IsRising, all_entries, seqs_of}
use Rattle.clip_model.specs.History.{Registered, is_live, replay}
use Rattle.clip_model.proofs.Live.{live_given}
use Rattle.clip_model.proofs.Numbering.{replay_numbered}
use Rattle.clip_model.proofs.Numbers.{numbers_same, number_less, number_more}
use Rattle.clip_registry.specs.RegistryState.{RegistryState, IsWhole}
use Rattle.clip_registry.specs.Steps.LiveFlags.{flags_of, flags_by, without, without_all}
use Rattle.clip_registry.proofs.Kept.{all_of_some}
use Rattle.clip_registry.proofs.Rising.{rising_head, rising_tail}
use Rattle.clip_registry.proofs.Whole.{entries_more, shelved}

-- ---- tests that agree

pub alike_of : (is so : ℕ → Bool) (es : List Registered) → All (λ r. is r.seq ≡ so r.seq) es
    → flags_of is es ≡ flags_of so es
alike_of is so [] all = refl
alike_of is so (e ∷ es) all =
    ap₂ (λ b bs. b ∷ bs) (All-head (λ (r : Registered). is r.seq ≡ so r.seq) e es all)
    (alike_of is so es (All-tail (λ (r : Registered). is r.seq ≡ so r.seq) e es all))

pub alike_by : (is so : ℕ → Bool) (segments : List (List Registered))
    → All (λ r. is r.seq ≡ so r.seq) (all_entries segments) → flags_by is segments ≡ flags_by so segments
alike_by is so [] all = refl
alike_by is so (s ∷ segments) all =
    let P : Registered → Type 0 = λ r. is r.seq ≡ so r.seq in
    ap₂ (λ b bs. b ∷ bs) (alike_of is so s
    (all_of_some P (s ++ all_entries segments) s all (λ r h. Contains-append_left s (all_entries segments) r h)))
    (alike_by is so segments
    (all_of_some P (s ++ all_entries segments) (all_entries segments) all
    (λ r h. Contains-append_right s (all_entries segments) r h)))

-- ---- a flag is cleared

later_differs : (r : Registered) (es : List Registered) → IsRising (r ∷ es) → (is : ℕ → Bool)
    → flags_of is es ≡ flags_of (without r.seq is) es
later_differs r es is test =
    alike_of test (without r.seq test) es
    (λ k d lt. let above = rising_head r es is k d lt in
    sym (ap (λ b. cond b false (test (get_or es k d).seq)) (number_less r.seq (get_or es k d).seq above)))

pub cleared_here : (is : ℕ → Bool) (es : List Registered) (seq position : ℕ) → IsRising es
    → slice_get (seqs_of es) position ≡ Some seq → set (flags_of is es) position false
    ≡ flags_of (without seq is) es
cleared_here is [] seq position rises there = refl
cleared_here is (e ∷ es) seq zero rises there =
    let same : e.seq ≡ seq = cc in
    ap₂ (λ b bs. b ∷ bs) (sym (ap (λ b. cond b false (is e.seq)) (numbers_same seq e.seq (sym same))))
    (later_differs e es rises is ∙ ap (λ s. flags_of (without s is) es) same)
cleared_here is (e ∷ es) seq (suc position) rises there =
    let before : e.seq < seq = below e es seq position rises there in
    ap₂ (λ b bs. b ∷ bs) (sym (ap (λ b. cond b false (is e.seq)) (number_more seq e.seq before)))
    (cleared_here is es seq position (rising_tail e es rises) there)
  where
    below : (r : Registered) (rs : List Registered) (s k : ℕ) → IsRising (r ∷ rs) → slice_get (seqs_of rs) k ≡ Some s
        → r.seq < s
    below r rs s k up at =
        let within = slice_get_within (seqs_of rs) k s at in
        let long = length-map rs (λ (x : Registered). x.seq) in
        let here = get_or_from_slice_get (seqs_of rs) k s 0 at in
        let inside : k < length rs = omega arith in
        let seq_is = get_or-map (λ (x : Registered). x.seq) rs k r 0 inside in
        let above = rising_head r rs up k r inside in
        omega arith

pub cleared_nowhere : (is : ℕ → Bool) (es : List Registered) (seq : ℕ)
    → ((position : ℕ) → slice_get (seqs_of es) position ≡ Some seq → ⊥)
    → flags_of is es ≡ flags_of (without seq is) es
cleared_nowhere is [] seq none = refl
cleared_nowhere is (e ∷ es) seq none =
    ap₂ (λ b bs. b ∷ bs) (sym (ap (λ b. cond b false (is e.seq)) other))
    (cleared_nowhere is es seq (λ position. none (suc position)))
  where
    other : (seq == e.seq) ≡ false
    other = elim (cases_order seq e.seq) [
      | inl same ↦ absurd (none 0 (ap Some (sym same)))
      | inr (inl less) ↦ number_less seq e.seq less
      | inr (inr more) ↦ number_more seq e.seq more
    ]

-- ---- tests without seqs

pub without-append : (seqs more : List ℕ) (is : ℕ → Bool)
    → without_all (seqs ++ more) is ≡ without_all more (without_all seqs is)
without-append [] more is = refl
without-append (gone ∷ seqs) more is = without-append seqs more (without gone is)

pub without_alike : (seqs : List ℕ) (is so : ℕ → Bool) (seq : ℕ) → is seq ≡ so seq
    → without_all seqs is seq ≡ without_all seqs so seq
without_alike [] is so seq same = same
without_alike (gone ∷ seqs) is so seq same =
    without_alike seqs (without gone is) (without gone so) seq (ap (cond (gone == seq) false) same)

-- ---- lists of flags

pub length-flags_of : (is : ℕ → Bool) (es : List Registered) → length (flags_of is es) ≡ length es
length-flags_of is es = length-map es (λ (r : Registered). is r.seq)

pub shape_of : (is : ℕ → Bool) (segments : List (List Registered)) → map length (flags_by is segments)
    ≡ map length segments
shape_of is [] = refl
shape_of is (s ∷ segments) = ap₂ (λ n ns. n ∷ ns) (length-flags_of is s) (shape_of is segments)

-- where each list of flags is that of its segment all are
pub flags_from : (is : ℕ → Bool) (segments : List (List Registered)) (live : List (List Bool))
    → length live ≡ length segments
    → ((k : ℕ) → k < length segments → get_or live k [] ≡ flags_of is (get_or segments k []))
    → live ≡ flags_by is segments
flags_from is segments live long each =
    ext_get_or [] live (flags_by is segments) (long ∙ sym (length-map segments (flags_of is)))
    (λ k lt. let inside : k < length segments = omega arith in
    each k inside ∙ sym (get_or-map (flags_of is) segments k [] [] inside))

pub flags_at : (is : ℕ → Bool) (segments : List (List Registered)) (live : List (List Bool)) (k : ℕ)
    → live ≡ flags_by is segments → k < length segments → get_or live k [] ≡ flags_of is (get_or segments k [])
flags_at is segments live k are inside =
    ap (λ ls. get_or ls k []) are ∙ get_or-map (flags_of is) segments k [] [] inside

-- as many lists of flags as segments
pub as_long : (is : ℕ → Bool) (segments : List (List Registered)) (live : List (List Bool))
    → live ≡ flags_by is segments → length live ≡ length segments
as_long is segments live are = ap length are ∙ length-map segments (flags_of is)

-- all flags are set where each entry passes
pub all_flagged : (is : ℕ → Bool) (es : List Registered) → All (λ r. is r.seq ≡ true) es
    → replicate (length es) true ≡ flags_of is es
all_flagged is [] all = refl
all_flagged is (e ∷ es) all =
    ap₂ (λ f fs. f ∷ fs) (sym (All-head (λ (r : Registered). is r.seq ≡ true) e es all))
    (all_flagged is es (All-tail (λ (r : Registered). is r.seq ≡ true) e es all))

-- the flags that stand at a place are those of the segment there
pub flags_here : (is : ℕ → Bool) (segments : List (List Registered)) (live : List (List Bool)) (k : ℕ)
    (flags : List Bool)
    → live ≡ flags_by is segments → flags ≡ get_or live k flags → k < length live
    → flags ≡ flags_of is (get_or segments k [])
flags_here is segments live k flags are at low =
    at ∙ get_or_default live k flags [] low
    ∙ flags_at is segments live k are (omega (arith, low, as_long is segments live are))

-- as many flags as entries
pub shape_at : (live : List (List Bool)) (segments : List (List Registered)) (k : ℕ)
    → map length live ≡ map length segments → k < length live → k < length segments
    → length (get_or live k []) ≡ length (get_or segments k [])
shape_at live segments k shape low lower = sym (get_or-map length live k [] 0 low) ∙ ap (λ ns. get_or ns k 0) shape
    ∙ get_or-map length segments k [] 0 lower

pub as_many : (live : List (List Bool)) (segments : List (Arc (List Registered) Global))
    → map length live ≡ map length (map arc_value segments) → length live ≡ length segments
as_many live segments shape = sym (length-map live length) ∙ ap length shape
    ∙ length-map (map arc_value segments) length ∙ length-map segments arc_value

pub segment_at : (segments : List (Arc (List Registered) Global)) (k : ℕ) (segment : Arc (List Registered) Global)
    → k < length segments → segment ≡ get_or segments k segment → get_or (map arc_value segments) k []
    ≡ arc_value segment
segment_at segments k segment low is = get_or-map arc_value segments k segment [] low ∙ ap arc_value (sym is)

-- the flags beside a segment are those of its entries
pub beside : (is : ℕ → Bool) (segments : List (List Registered)) (live : List (List Bool))
    (items : List (Arc (List Registered) Global)) (k : ℕ) (segment : Arc (List Registered) Global) (flags : List Bool)
    → live ≡ flags_by is segments → map arc_value items ≡ segments → k < length items → segment ≡ get_or items k segment
    → flags ≡ get_or live k flags → flags ≡ flags_of is (arc_value segment)
beside is segments live items k segment flags are same low at here =
    flags_here is segments live k flags are here
    (omega (arith, low, as_long is segments live are, ap length same, length-map items arc_value))
    ∙ ap (flags_of is) (ap (λ ss. get_or ss k []) (sym same) ∙ segment_at items k segment low at)

-- ---- whether a seq is live

pub flag_there : (is : ℕ → Bool) (es : List Registered) (seq position : ℕ) → slice_get (seqs_of es) position ≡ Some seq
    → get_or (flags_of is es) position false ≡ is seq
flag_there is [] seq position there =
    let none = slice_get_within (seqs_of []) position seq there in
    absurd (omega arith)
flag_there is (e ∷ es) seq zero there = let same : e.seq ≡ seq = cc in ap is same
flag_there is (e ∷ es) seq (suc position) there = flag_there is es seq position there

-- those of one segment more
pub seqs_more : (segments : List (Arc (List Registered) Global)) (k : ℕ) (segment : Arc (List Registered) Global)
    → k < length segments → segment ≡ get_or segments k segment
    → seqs_of (all_entries (map arc_value (take (k + 1) segments)))
    ≡ seqs_of (all_entries (map arc_value (take k segments))) ++ seqs_of (arc_value segment)
seqs_more segments k segment low is =
    ap seqs_of (entries_more arc_value segments k segment low is)
    ∙ map-append (λ (r : Registered). r.seq) (all_entries (map arc_value (take k segments))) (arc_value segment)

-- an entry's seq is among the seqs
pub seq_among : (es : List Registered) (r : Registered) → Contains es r → Contains (seqs_of es) r.seq
seq_among es r (k, lt, at) = (
  k,
  omega (arith, lt, length-map es (λ (q : Registered). q.seq)),
  get_or-map (λ (q : Registered). q.seq) es k r r.seq lt ∙ ap (λ (q : Registered). q.seq) at,
)

-- a live seq is that of an entry
pub live_among : (state : RegistryState) (seq : ℕ) → IsWhole state → is_live state.history seq ≡ true
    → Contains (seqs_of (all_entries state.segments)) seq
live_among state seq whole live =
    let at = live_given (replay state.history) seq live in
    let all = all_entries state.segments in
    subst (Contains (seqs_of all)) at.is
    (seq_among all at.entry
    ((shelved state (replay_numbered state.history) whole).among at.id at.entry at.given))
