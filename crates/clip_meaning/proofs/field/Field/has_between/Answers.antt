use Rattle.std.proofs.Common.{◌∙◌, ◌&&◌}
use Rattle.clip_grammar.specs.Tree.{end_of}
use Rattle.clip_meaning.specs.Meaning.{above, below}
use Rattle.clip_meaning.proofs.Numbered.{words_pass}
use Rattle.clip_meaning.proofs.field.Field.has_between.Goals as goal

pub returns : goal.returns
returns c =
    c.has_between.ensures ∙ words_pass (λ w. above (end_of c.args.low.now) w && below (end_of c.args.high.now) w) _ _
    c.postings.ensures.words
