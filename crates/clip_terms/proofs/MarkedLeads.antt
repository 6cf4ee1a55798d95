-- Leads that have their marks.
use Rattle.std.proofs.Common.{◌≡◌, ℕ, zero, suc, ◌<◌, ◌≤◌, Bool, true, false, List, [], ◌∷◌, length, set, get_or}
use Rattle.std.proofs.Common.{None, inl, inr, ◌+◌, refl, sym, ap, ◌∙◌, subst, arith}
use Rattle.std.proofs.lemmas.Bool.{cases_lt, false≢true}
use Rattle.std.proofs.lemmas.List.{get_or-set_same}
use Rattle.clip_meaning.specs.Leads.{IsLead}
use Rattle.clip_extract.specs.Keys.{KeyValue, text_of}
use Rattle.clip_terms.specs.declared.lead_marks.LeadMarks.{LeadMarks}
use Rattle.clip_terms.specs.Steps.LeadMarks.{bit_of, has_mark, HaveMarks, AreMarked}
use Rattle.clip_terms.specs.Steps.Leads.{AreLeads, IsPlaceOf}
use Rattle.clip_terms.proofs.LeadsOfTerms.{leads_long, lead_at}

-- what is marked stays so
pub stays_marked : (marks : List Bool) (n m : ℕ) → get_or marks m false ≡ true
    → get_or (set marks n true) m false ≡ true
stays_marked [] n m is = is
stays_marked (mark ∷ marks) zero zero is = refl
stays_marked (mark ∷ marks) zero (suc m) is = is
stays_marked (mark ∷ marks) (suc n) zero is = is
stays_marked (mark ∷ marks) (suc n) (suc m) is = stays_marked marks n m is

-- where one more lead is marked, those before it have their marks, and it has its
pub one_more_marked : (leads : List ℕ) (shift last n bit : ℕ) (marks after : List Bool)
    → ((m : ℕ) → m < n → get_or marks (bit_of (get_or leads m 0) shift last) false ≡ true)
    → bit ≡ bit_of (get_or leads n 0) shift last → bit < length marks → after ≡ set marks bit true
    → (m : ℕ) → m < n + 1 → get_or after (bit_of (get_or leads m 0) shift last) false ≡ true
one_more_marked leads shift last n bit marks after have is inside more m upto =
    elim (cases_lt m n) [
      | inl lt ↦
          let at = bit_of (get_or leads m 0) shift last in
          ap (λ (ms : List Bool). get_or ms at false) more ∙ stays_marked marks bit at (have m lt)
      | inr ge ↦
          let same : n ≡ m = omega arith in
          subst (λ (k : ℕ). get_or after (bit_of (get_or leads k 0) shift last) false ≡ true) same
          (ap (λ (ms : List Bool). get_or ms (bit_of (get_or leads n 0) shift last) false) more
          ∙ ap (λ (b : ℕ). get_or (set marks bit true) b false) (sym is) ∙ get_or-set_same marks bit true false inside)
    ]

-- a text has one lead
pub one_lead : (text : List ℕ) (m n : ℕ) → IsLead text m → IsLead text n → m ≡ n
one_lead text m n a b = a.number ∙ sym b.number

-- where the leads that are beside terms have their marks, those of their texts have
pub marked_terms : (ts : List KeyValue) (leads : List ℕ) (marks : LeadMarks) → AreLeads ts leads
    → HaveMarks leads marks → AreMarked ts marks
marked_terms ts leads marks are have n d inside lead is =
    subst (λ (l : ℕ). has_mark marks l ≡ true)
    (one_lead (text_of (get_or ts n d)) (get_or leads n 0) lead (lead_at ts leads are n d inside) is)
    (have n (let long = leads_long ts leads are in omega (arith, long, inside)))

-- so a text whose lead has none is the text of no term
pub unmarked_nowhere : (ts : List KeyValue) (marks : LeadMarks) (start end : ℕ) (text : List ℕ) (lead : ℕ)
    → AreMarked ts marks → IsLead text lead → end ≤ length ts → has_mark marks lead ≡ false
    → IsPlaceOf ts start end text None
unmarked_nowhere ts marks start end text lead are is within unmarked n d a b e =
    false≢true (sym unmarked ∙ are n d (omega arith) lead (subst (λ (t : List ℕ). IsLead t lead) (sym e) is))
