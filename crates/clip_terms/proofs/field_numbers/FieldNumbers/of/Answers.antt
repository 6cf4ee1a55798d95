use Rattle.std.proofs.Common.{ℕ, List, Option, ap, ◌∙◌, subst, sym}
use Rattle.clip_terms.specs.Steps.FieldNumbers.{spots_of, AreSpotsOf}
use Rattle.clip_terms.proofs.SpotsOfFields.{field_spots}
use Rattle.clip_terms.proofs.field_numbers.FieldNumbers.of.Goals as goal

pub invariant_of-result : goal.invariant_of-result
invariant_of-result c =
    let numbers = c.args.numbers.items in
    let ps = c.postings.result in
    subst (AreSpotsOf numbers)
    (sym (c.in_ok-spots.ensures ∙ ap (λ (ns : List (Option ℕ)). spots_of ns ps) c.deref.ensures.value))
    (field_spots c.args.terms.now c.args.field.now numbers ps c.order_law.ensures c.requires c.postings.ensures.words
    c.postings.ensures.sorted)
