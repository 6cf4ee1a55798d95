use Rattle.std.proofs.Common.{◌≡◌, ◌∷◌, true, not, map, Some, length, sym, ap, ◌∙◌, arith}
use Rattle.std.specs.Arc.{arc_str_bytes}
use Rattle.clip_grammar.specs.Steps.Parser.{begins_colon}
use Rattle.clip_syntax.specs.Steps.Items.{item_text}
use Rattle.clip_syntax.specs.Steps.TokenOf.{token_of}
use Rattle.clip_syntax.proofs.Wording.{lacks, lacks_written, lacks_here, lacks_none}
use Rattle.clip_syntax.proofs.words.item_words.Goals as goal

pub returns-then-is_empty-clause-lacking : goal.returns-then-is_empty-clause-lacking
returns-then-is_empty-clause-lacking c = λ w e.
    let token = token_of c.in-Some.token.now in
    let after = map token_of c.in-Some.after.now in
    let text = c.in-Some-item_text.text.now in
    let parts : map token_of c.loop-token.rest.now ≡ token ∷ after = grind arith in
    let found : item_text token (begins_colon after) ≡ Some text = grind arith in
    let none : length c.in_ok-words.words.items ≡ 0 = grind arith in
    let here : lacks (map token_of c.loop-token.rest.now) ≡ true =
    lacks_here _ after token text arc_str_bytes c.in_ok-words.words.items parts found c.in_ok-words.ensures none in
    sym (ap not (sym (lacks_written w _ e) ∙ sym c.loop-token.invariant.1 ∙ here))

pub returns-clause-lacking : goal.returns-clause-lacking
returns-clause-lacking c = λ w e.
    sym (ap not (sym (lacks_written w _ e) ∙ sym c.loop-token.invariant.1
    ∙ lacks_none c.loop-token.rest.now c.in_default.ensures.cases))
