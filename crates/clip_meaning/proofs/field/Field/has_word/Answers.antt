use Rattle.std.proofs.Common.{◌∙◌}
use Rattle.std.specs.Str.{bytes_eq}
use Rattle.clip_meaning.proofs.Numbered.{words_pass}
use Rattle.clip_meaning.proofs.field.Field.has_word.Goals as goal

pub returns : goal.returns
returns c = c.has_word.ensures ∙ words_pass (λ w. bytes_eq w c.args.word.now) _ _ c.postings.ensures.words
