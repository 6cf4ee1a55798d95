use Rattle.std.proofs.Common.{ℕ, List, sym, ap, ◌∙◌, subst, map, arith}
use Rattle.std.specs.List.{All}
use Rattle.std.specs.List.Sorted.{IsStrictlySortedBy}
use Rattle.clip_extract.specs.Keys.{key_of, key_cmp}
use Rattle.clip_extract.specs.declared.key.Key.{Key}
use Rattle.clip_terms.specs.Steps.Leads.{AreLeads, AreShortLengths}
use Rattle.clip_terms.specs.Steps.LeadMarks.{HaveMarks}
use Rattle.clip_terms.specs.Steps.Parts.{IsFieldPart}
use Rattle.clip_terms.proofs.MarkedLeads.{marked_terms}
use Rattle.clip_terms.proofs.Numbers.{in_order_rises}
use Rattle.clip_terms.proofs.terms.Terms.of.Goals as goal

pub parts_of-requires : goal.parts_of-requires
parts_of-requires c =
    subst (IsStrictlySortedBy key_cmp) (sym (ap (λ (keys : List Key). map key_of keys) c.deref-3.ensures.value
    ∙ c.in_ok-keys.ensures)) (in_order_rises (map key_of c.args.keys.items))

pub invariant_of-result : goal.invariant_of-result
invariant_of-result c = (
  subst (IsStrictlySortedBy key_cmp) (sym c.in_ok-keys.ensures) (in_order_rises (map key_of c.args.keys.items)),
  omega arith,
  subst (λ (keys : List Key). AreLeads (map key_of keys) c.in_ok-leads.leads.items) c.deref.ensures.value
      c.in_ok-leads.ensures,
  subst (λ (keys : List Key). AreShortLengths (map key_of keys) c.in_ok-lengths.lengths.items) c.deref-2.ensures.value
      c.in_ok-lengths.ensures,
  subst (λ (keys : List Key). All (IsFieldPart (map key_of keys)) c.in_ok-parts.parts.items) c.deref-3.ensures.value
      c.in_ok-parts.ensures,
  marked_terms (map key_of c.in_ok-keys.keys.items) c.in_ok-leads.leads.items c.in_ok-marks.marks
      (subst (λ (keys : List Key). AreLeads (map key_of keys) c.in_ok-leads.leads.items) c.deref.ensures.value
      c.in_ok-leads.ensures)
      (subst (λ (leads : List ℕ). HaveMarks leads c.in_ok-marks.marks) c.deref-4.ensures.value c.in_ok-marks.ensures),
)
