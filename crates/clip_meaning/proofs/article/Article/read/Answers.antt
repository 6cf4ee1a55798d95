use Rattle.std.proofs.Common.{◌≡◌, ap, sym, ◌∙◌, string_bytes, take}
use Rattle.std.specs.FinMap as finite
use Rattle.clip_words.specs.Words.{words_of}
use Rattle.clip_meaning.specs.Article.{Fields, pairs_of, read_fields}
use Rattle.clip_meaning.proofs.Fields.{Entry}
use Rattle.clip_meaning.proofs.Pairs.{once_from_fault, new_name, one_more}
use Rattle.clip_meaning.proofs.article.Article.read.Goals as goal

-- the field's name is new
pub insert-requires : goal.insert-requires
insert-requires c =
    let once = once_from_fault c.args.id.now (pairs_of c.args.fields.now) (sym c.fault_of.ensures ∙ c.in_default.is) in
    let x = c.loop-name-item.result in
    let named : c.in_ok-read.field-0.0 ≡ string_bytes x.0 = ap (λ (e : Entry). e.0) c.in_ok-read.ensures
    ∙ c.as_str.ensures.value in
    ap (λ (m : Fields). finite.contains_key m c.in_ok-read.field-0.0) c.loop-name.invariant
    ∙ new_name c.args.fields.now c.loop-name.name-index x c.in_ok-read.field-0.0 once c.loop-name-test.true
    c.loop-name-item.is named

pub loop-name-preserved : goal.loop-name-preserved
loop-name-preserved c =
    let once = once_from_fault c.args.id.now (pairs_of c.args.fields.now) (sym c.fault_of.ensures ∙ c.in_default.is) in
    let x = c.loop-name-item.result in
    let named : c.in_ok-read.field-0.0 ≡ string_bytes x.0 = ap (λ (e : Entry). e.0) c.in_ok-read.ensures
    ∙ c.as_str.ensures.value in
    let words : c.in_ok-read.field-0.1 ≡ words_of (string_bytes x.1) = ap (λ (e : Entry). e.1) c.in_ok-read.ensures
    ∙ ap words_of c.as_str-in-loop-name.ensures.value in
    c.in_ok-insert.ensures.ok
    ∙ ap (λ (m : Fields). finite.insert m c.in_ok-read.field-0.0 c.in_ok-read.field-0.1) c.loop-name.invariant
    ∙ (λ i. finite.insert (read_fields (pairs_of (take c.loop-name.name-index c.args.fields.now))) (named i) (words i))
    ∙ one_more c.args.fields.now c.loop-name.name-index x once c.loop-name-test.true c.loop-name-item.is
