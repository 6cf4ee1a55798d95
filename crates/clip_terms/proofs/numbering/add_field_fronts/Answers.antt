use Rattle.std.proofs.Common.{All, subst}
use Rattle.std.specs.Str.{IsUtf8}
use Rattle.clip_terms.proofs.AskedFronts.{field_asked}
use Rattle.clip_terms.proofs.numbering.add_field_fronts.Goals as goal

pub returns : goal.returns
returns c =
    field_asked c.args.of_field.now.terms c.args.field.now c.args.of_field.now.field c.postings.result
    c.args.numbers.now.items c.add_posting_fronts.new.numbers.items c.requires.strict c.requires.field
    c.postings.ensures.words c.in_ok-add_posting_fronts.ensures

pub add_fronts_of-requires-clause-texts : goal.add_fronts_of-requires-clause-texts
add_fronts_of-requires-clause-texts c = subst (All IsUtf8) c.words-words.ensures c.utf8_law.ensures
