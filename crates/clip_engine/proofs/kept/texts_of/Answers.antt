use Rattle.std.proofs.Common.{◌≡◌, ◌∙◌, ap, rules, subst}
use Rattle.std.proofs.lemmas.List.{take_all}
use Rattle.std.specs.List.{All}
use Rattle.clip_meaning.specs.Article.{pairs_of}
use Rattle.clip_engine.specs.Texts.{IsField, IsNoText, fields_of}
use Rattle.clip_engine.proofs.Reading.{name_unread, text_unread, pairs_read}
use Rattle.clip_engine.proofs.kept.texts_of.Goals as goal

pub returns-in_err-name-clause-why : goal.returns-in_err-name-clause-why
returns-in_err-name-clause-why c =
    let none : IsNoText (All IsField (fields_of c.args.fields.now)) c.in_err-name.field-0.0 =
    name_unread c.args.fields.now c.loop-field.field-index _ _ c.loop-field-test.true c.in_err-name.ensures.why in
    search rules

pub returns-in_err-text-clause-why : goal.returns-in_err-text-clause-why
returns-in_err-text-clause-why c =
    let none : IsNoText (All IsField (fields_of c.args.fields.now)) c.in_err-text.field-0.0 =
    text_unread c.args.fields.now c.loop-field.field-index _ _ c.loop-field-test.true c.in_err-text.ensures.why in
    search rules

pub returns-clause-texts : goal.returns-clause-texts
returns-clause-texts c =
    let fields = c.args.fields.now in
    let all : pairs_of c.loop-field.pairs.items ≡ fields_of fields =
    c.loop-field.invariant ∙ ap fields_of (take_all c.loop-field.field-index fields c.loop-field-test.false) in
    subst (All IsField) all (pairs_read c.loop-field.pairs.items)
