use Rattle.std.proofs.Common.{List, drop, ◌++◌, ap, ◌∙◌}
use Rattle.clip_extract.specs.Keys.{KeyValue}
use Rattle.clip_terms.proofs.Merging.{all_merged, rest}
use Rattle.clip_terms.proofs.heads.merged.Goals as goal

pub returns : goal.returns
returns c =
    let a : List KeyValue = c.args.a.now in
    let b : List KeyValue = c.args.b.now in
    let heads : List KeyValue = c.loop-first.heads.items in
    let left = drop c.loop-first.at_a a in
    let right = drop c.loop-first.at_b b in
    c.in_ok-add_all-2.ensures ∙ ap (λ l. c.add_all.new.all.items ++ l) (rest b c.loop-first.at_b)
    ∙ ap (λ l. l ++ right) (c.in_ok-add_all.ensures ∙ ap (λ l. heads ++ l) (rest a c.loop-first.at_a))
    ∙ all_merged heads left right (a ++ b)
    (c.in_default.ensures.lesser heads c.loop-first.invariant.left c.loop-first.invariant.right)
    c.loop-first.invariant.among
