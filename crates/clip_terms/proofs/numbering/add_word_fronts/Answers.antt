use Rattle.std.proofs.Common.{◌++◌, option_to_list, sym, ap, ◌∙◌}
use Rattle.clip_terms.proofs.AskedFronts.{front_more}
use Rattle.clip_terms.proofs.numbering.add_word_fronts.Goals as goal

pub loop-front-preserved : goal.loop-front-preserved
loop-front-preserved c =
    let old = c.loop-front.numbers.items in
    front_more c.args.of_field.now.terms c.args.of_field.now.field (λ l. l.now) c.in-Some.front.now c.loop-front.lasts
    c.next-in-Some.new.self c.loop-front.fronts c.next.new.self c.next-in-Some.result old
    c.add_known.new.numbers.items _
    c.next-in-Some.ensures (sym c.is_text.ensures ∙ c.if-is_text.false) c.in-Some.ensures (c.in_ok-add_known.ensures
    ∙ ap (λ o. old ++ option_to_list o) c.front.ensures) c.loop-front.invariant
