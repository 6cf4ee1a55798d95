-- Terms and their leads, one after another.
use Rattle.std.proofs.Common.{◌≡◌, ℕ, zero, suc, ◌<◌, ◌≤◌, List, [], ◌∷◌, ◌++◌, length, map, take, drop, get_or, Less}
use Rattle.std.proofs.Common.{Greater, is_gt, nat_lt, if◌then◌else◌, ◌+◌, ◌-◌, refl, sym, ap, subst, ◌∙◌, arith}
use Rattle.std.proofs.Common.{inl, inr}
use Rattle.std.specs.Ordering.{ordering_reverse}
use Rattle.std.specs.Cmp.Lexicographic.{nat_list_cmp_total}
use Rattle.std.proofs.lemmas.Bool.{cases_lt, lt-ltb, le-ltb, false≢true}
use Rattle.std.proofs.lemmas.List.{get_or-map, get_or_default}
use Rattle.clip_words.specs.Order.{bytes_cmp}
use Rattle.clip_meaning.specs.Leads.{IsLead}
use Rattle.clip_meaning.proofs.Leads.{lead_below}
use Rattle.clip_extract.specs.Keys.{KeyValue, Any, key_of, text_of}
use Rattle.clip_extract.specs.declared.key.Key.{Key}
use Rattle.clip_terms.specs.Steps.Leads.{AreLeads, IsShortLength, AreShortLengths, NeverFall, TextsRise}

pub leads_long : (ts : List KeyValue) (leads : List ℕ) → AreLeads ts leads → length leads ≡ length ts
leads_long [] [] are = refl
leads_long [] (lead ∷ leads) are = absurd are
leads_long (t ∷ ts) [] are = absurd are
leads_long (t ∷ ts) (lead ∷ leads) are = ap suc (leads_long ts leads are.1)

pub lead_at : (ts : List KeyValue) (leads : List ℕ) → AreLeads ts leads → (n : ℕ) (d : KeyValue) → n < length ts
    → IsLead (text_of (get_or ts n d)) (get_or leads n 0)
lead_at [] leads are n d inside = absurd (omega arith)
lead_at (t ∷ ts) [] are n d inside = absurd are
lead_at (t ∷ ts) (lead ∷ leads) are zero d inside = are.0
lead_at (t ∷ ts) (lead ∷ leads) are (suc n) d inside = lead_at ts leads are.1 n d (omega arith)

pub leads_push : (ts : List KeyValue) (leads : List ℕ) (t : KeyValue) (lead : ℕ) → AreLeads ts leads
    → IsLead (text_of t) lead → AreLeads (ts ++ t ∷ []) (leads ++ lead ∷ [])
leads_push [] [] t lead are is = (is, tt)
leads_push [] (l ∷ leads) t lead are is = absurd are
leads_push (x ∷ ts) [] t lead are is = absurd are
leads_push (x ∷ ts) (l ∷ leads) t lead are is = (are.0, leads_push ts leads t lead are.1 is)

pub lengths_long : (ts : List KeyValue) (lengths : List ℕ) → AreShortLengths ts lengths → length lengths ≡ length ts
lengths_long [] [] are = refl
lengths_long [] (short ∷ lengths) are = absurd are
lengths_long (t ∷ ts) [] are = absurd are
lengths_long (t ∷ ts) (short ∷ lengths) are = ap suc (lengths_long ts lengths are.1)

pub length_at : (ts : List KeyValue) (lengths : List ℕ) → AreShortLengths ts lengths → (n : ℕ) (d : KeyValue)
    → n < length ts → IsShortLength (text_of (get_or ts n d)) (get_or lengths n 0)
length_at [] lengths are n d inside = absurd (omega arith)
length_at (t ∷ ts) [] are n d inside = absurd are
length_at (t ∷ ts) (short ∷ lengths) are zero d inside = are.0
length_at (t ∷ ts) (short ∷ lengths) are (suc n) d inside = length_at ts lengths are.1 n d (omega arith)

pub lengths_push : (ts : List KeyValue) (lengths : List ℕ) (t : KeyValue) (short : ℕ) → AreShortLengths ts lengths
    → IsShortLength (text_of t) short → AreShortLengths (ts ++ t ∷ []) (lengths ++ short ∷ [])
lengths_push [] [] t short are is = (is, tt)
lengths_push [] (l ∷ lengths) t short are is = absurd are
lengths_push (x ∷ ts) [] t short are is = absurd are
lengths_push (x ∷ ts) (l ∷ lengths) t short are is = (are.0, lengths_push ts lengths t short are.1 is)

-- the term at a place is the key of what was read there
pub read_at : (keys : List Key) (n : ℕ) (k : Key) → n < length keys → k ≡ get_or keys n k → (d : KeyValue)
    → get_or (map key_of keys) n d ≡ key_of k
read_at keys n k inside is d = get_or-map key_of keys n k d inside ∙ ap key_of (sym is)

-- the number at a place is the one that was read there
pub at_any : (ns : List ℕ) (i x : ℕ) → i < length ns → x ≡ get_or ns i x → get_or ns i 0 ≡ x
at_any ns i x inside is = get_or_default ns i 0 x inside ∙ sym is

-- where texts rise, leads never fall
pub never_fall : (ts : List KeyValue) (leads : List ℕ) (start end : ℕ) → AreLeads ts leads → end ≤ length ts
    → TextsRise ts start end → NeverFall leads start end
never_fall ts leads start end are within rise m n a lt b =
    elim (cases_lt (get_or leads n 0) (get_or leads m 0)) [
      | inl less ↦
          let turned = lead_below (text_of (get_or ts n Any)) (text_of (get_or ts m Any)) _ _
          (lead_at ts leads are n Any (omega arith)) (lead_at ts leads are m Any (omega arith)) less in
          absurd (false≢true (ap is_gt (sym turned
          ∙ nat_list_cmp_total.antisymm (text_of (get_or ts n Any)) (text_of (get_or ts m Any))
          ∙ ap ordering_reverse (rise m n Any a lt b))))
      | inr ge ↦ ge
    ]

-- and texts of lesser leads than a text's are below it
pub all_below : (ts : List KeyValue) (leads : List ℕ) (start end : ℕ) (text : List ℕ) (lead : ℕ) → AreLeads ts leads
    → IsLead text lead → end ≤ length ts
    → ((n : ℕ) → start ≤ n → n < end → get_or leads n 0 < lead)
    → (n : ℕ) (d : KeyValue) → start ≤ n → n < end → bytes_cmp (text_of (get_or ts n d)) text ≡ Less
all_below ts leads start end text lead are is within lower n d a b =
    lead_below (text_of (get_or ts n d)) text (get_or leads n 0) lead (lead_at ts leads are n d (omega arith)) is
    (lower n a b)

-- and texts from a place on, at which a greater lead stands, are above it
pub all_above : (ts : List KeyValue) (leads : List ℕ) (start end : ℕ) (text : List ℕ) (lead first : ℕ)
    → AreLeads ts leads → IsLead text lead → end ≤ length ts → NeverFall leads start end → start ≤ first
    → lead < get_or leads first 0
    → (n : ℕ) (d : KeyValue) → first ≤ n → n < end → bytes_cmp (text_of (get_or ts n d)) text ≡ Greater
all_above ts leads start end text lead first are is within fall from high n d a b =
    let more : lead < get_or leads n 0 =
    elim (cases_lt first n) [
      | inl lt ↦ omega (arith, fall first n from lt b, high)
      | inr ge ↦ let same : first ≡ n = omega arith in subst (λ j. lead < get_or leads j 0) same high
    ] in
    nat_list_cmp_total.antisymm (text_of (get_or ts n d)) text
    ∙ ap ordering_reverse (lead_below text (text_of (get_or ts n d)) lead (get_or leads n 0) is
    (lead_at ts leads are n d (omega arith)) more)

-- where leads never fall, none up to a place of a lesser lead is greater
pub lesser_up_to : (leads : List ℕ) (start end place lead : ℕ) → NeverFall leads start end → place < end
    → get_or leads place 0 < lead
    → (n : ℕ) → start ≤ n → n ≤ place → get_or leads n 0 < lead
lesser_up_to leads start end place lead fall within less n a b =
    elim (cases_lt n place) [
      | inl lt ↦ omega (arith, fall n place a lt within, less)
      | inr ge ↦ let same : place ≡ n = omega arith in subst (λ j. get_or leads j 0 < lead) same less
    ]

-- a step of a power of two from a place, taken where the last lead that it passes is lesser
pub stepped : (leads : List ℕ) (start end low step lead taken : ℕ) → NeverFall leads start end → start ≤ low → 0 < step
    → low + step ≤ end
    → taken ≡ (if nat_lt (get_or leads (low + (step - 1)) 0) lead then step else 0)
    → ((n : ℕ) → start ≤ n → n < low → get_or leads n 0 < lead)
    → (taken ≤ step) × ((n : ℕ) → start ≤ n → n < low + taken → get_or leads n 0 < lead)
stepped leads start end low step lead taken fall from some within is before =
    elim (cases_lt (get_or leads (low + (step - 1)) 0) lead) [
      | inl less ↦
          let all : taken ≡ step = is ∙ ap (λ b. if b then step else 0) (lt-ltb _ _ less) in (
            omega arith,
            λ n a b. lesser_up_to leads start end (low + (step - 1)) lead fall (omega arith) less n a
                (omega arith),
          )
      | inr ge ↦
          let none : taken ≡ 0 = is ∙ ap (λ b. if b then step else 0) (le-ltb _ _ ge) in
          (omega arith, λ n a b. before n a (omega arith))
    ]

-- ---- what is left from a place on

pub some_left : (k n : ℕ) (xs : List ℕ) → 0 < k → n < length xs → 0 < length (take k (drop n xs))
some_left k n [] some inside = absurd (omega arith)
some_left zero n (x ∷ xs) some inside = absurd (omega arith)
some_left (suc k) zero (x ∷ xs) some inside = omega arith
some_left (suc k) (suc n) (x ∷ xs) some inside = some_left (suc k) n xs some (omega arith)

pub first_left : (k n : ℕ) (xs : List ℕ) → 0 < k → n < length xs → get_or (take k (drop n xs)) 0 0 ≡ get_or xs n 0
first_left k n [] some inside = absurd (omega arith)
first_left zero n (x ∷ xs) some inside = absurd (omega arith)
first_left (suc k) zero (x ∷ xs) some inside = refl
first_left (suc k) (suc n) (x ∷ xs) some inside = first_left (suc k) n xs some (omega arith)
