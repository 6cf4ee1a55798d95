use Rattle.std.proofs.Common.{ℕ, List, subst, sym, ap, map, length, arith}
use Rattle.std.proofs.lemmas.List.{length-map}
use Rattle.std.specs.List.{All}
use Rattle.std.specs.List.Sorted.{IsStrictlySortedBy}
use Rattle.clip_extract.specs.Keys.{KeyValue, key_of, key_cmp}
use Rattle.clip_extract.specs.declared.key.Key.{Key}
use Rattle.clip_terms.specs.Steps.LeadMarks.{HaveMarks, AreMarked}
use Rattle.clip_terms.specs.Steps.Leads.{AreLeads, AreShortLengths}
use Rattle.clip_terms.specs.Steps.Parts.{IsFieldPart}
use Rattle.clip_terms.proofs.MarkedLeads.{marked_terms}
use Rattle.clip_terms.proofs.terms.Terms.of_heads.Goals as goal

pub invariant_of-result : goal.invariant_of-result
invariant_of-result c =
    let heads = c.args.heads.now in
    let leads = c.in_ok-leads.leads.items in
    let marks = c.in_ok-marks.marks in
    let same = sym c.in_ok-keys.ensures in (
      subst (IsStrictlySortedBy key_cmp) same c.requires,
      omega (arith, ap length c.in_ok-keys.ensures, length-map c.in_ok-keys.keys.items key_of),
      subst (λ (ts : List KeyValue). AreLeads ts leads) same c.in_ok-leads.ensures,
      subst (λ (ts : List KeyValue). AreShortLengths ts c.in_ok-lengths.lengths.items) same c.in_ok-lengths.ensures,
      subst (λ (keys : List Key). All (IsFieldPart (map key_of keys)) c.in_ok-parts.parts.items) c.deref.ensures.value
          c.in_ok-parts.ensures,
      subst (λ (ts : List KeyValue). AreMarked ts marks) same
          (marked_terms heads leads marks c.in_ok-leads.ensures
          (subst (λ (ls : List ℕ). HaveMarks ls marks) c.deref-2.ensures.value c.in_ok-marks.ensures)),
    )
