use Rattle.std.proofs.Common.{None, ◌+◌, ◌++◌, drop, get_or, option_to_list, append_assoc, append-nil, sym, ap, ◌∙◌}
use Rattle.std.proofs.Common.{List, Option, ℕ, refl}
use Rattle.std.proofs.lemmas.List.{drop_more, drop_all}
use Rattle.clip_terms.specs.Steps.Numbers.{known}
use Rattle.clip_terms.proofs.numbering.add_all_known.Goals as goal

pub loop-number-init : goal.loop-number-init
loop-number-init c = refl

pub loop-number-preserved : goal.loop-number-preserved
loop-number-preserved c =
    let by_key = c.args.by_key.now in
    let i = c.loop-number.number-index in
    let old = c.loop-number.numbers.items in
    let rest = known (drop (i + 1) by_key) in
    ap (λ numbers. numbers ++ rest) c.in_ok-add_known.ensures
    ∙ append_assoc old (option_to_list (get_or by_key i None)) rest
    ∙ ap (λ more. old ++ more) (sym (ap known (drop_more by_key i None c.loop-number-test.true)))
    ∙ c.loop-number.invariant

pub returns : goal.returns
returns c =
    let new = c.loop-number.numbers.items in
    sym (append-nil new)
    ∙ ap (λ (numbers : List (Option ℕ)). new ++ known numbers)
    (sym (drop_all c.loop-number.number-index c.args.by_key.now c.loop-number-test.false))
    ∙ c.loop-number.invariant
