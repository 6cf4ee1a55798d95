use Rattle.std.proofs.Common.{sym, ◌∙◌}
use Rattle.std.proofs.lemmas.Bool.{false_from_ne_true, true≢false}
use Rattle.std.proofs.lemmas.Slice.Eq.{bytes_eq-Decides}
use Rattle.clip_grammar.proofs.Booleans.{same_answer}
use Rattle.clip_extract.proofs.FrontKeys.{has_some, has_none, front_there, key_there}
use Rattle.clip_extract.proofs.front.has_front_key.Goals as goal

pub returns-then-not-has_front : goal.returns-then-not-has_front
returns-then-not-has_front c =
    let field = c.args.field.now in
    sym (false_from_ne_true _
    (λ there. let front = front_there field.0 c.args.text.now c.utf8.text field.1 c.has_front.ensures.texts there in
    true≢false (sym front.begins ∙ sym c.has_front.ensures.front ∙ c.if-not-has_front.true)))

pub returns-then-is_empty : goal.returns-then-is_empty
returns-then-is_empty c =
    let field = c.args.field.now in
    sym (false_from_ne_true _
    (λ there. let front = front_there field.0 c.args.text.now c.utf8.text field.1 c.has_front.ensures.texts there in
    has_none c.args.text.now (sym c.is_empty.ensures ∙ c.if-is_empty.true) front.some))

pub returns : goal.returns
returns c =
    let field = c.args.field.now in
    let text = c.args.text.now in
    same_answer _ _
    (λ same. key_there field.0 text field.1 (record {
      begins = sym c.has_front.ensures.front ∙ c.if-not-has_front.false;
      short = sym c.key_front.ensures ∙ (bytes_eq-Decides c.key_front.result.now text).0 (sym c.eq.ensures ∙ same);
      some = has_some text (sym c.is_empty.ensures ∙ c.if-is_empty.false);
    }))
    (λ there. let front = front_there field.0 text c.utf8.text field.1 c.has_front.ensures.texts there in
    c.eq.ensures ∙ (bytes_eq-Decides c.key_front.result.now text).1 (c.key_front.ensures ∙ front.short))
