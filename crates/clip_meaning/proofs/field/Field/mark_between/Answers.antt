use Rattle.std.proofs.Common.{◌∙◌, ◌||◌, ap, arith, get_or, nat_eq}
use Rattle.clip_grammar.specs.Tree.{end_of}
use Rattle.clip_meaning.specs.Meaning.{is_between}
use Rattle.clip_meaning.specs.Steps.Marks.{is_up}
use Rattle.clip_meaning.proofs.Marks.{passing_at}
use Rattle.clip_meaning.proofs.Occurrences.{any_position}
use Rattle.clip_meaning.proofs.field.Field.mark_between.Goals as goal

pub returns-clause-raised : goal.returns-clause-raised
returns-clause-raised c k lt =
    let old = is_up (get_or c.args.flags.now k 0) in
    c.raise_all.ensures.raised k lt
    ∙ ap (λ b. old || b) (any_position (nat_eq k) c.between.result c.as_slice.result.now c.as_slice.ensures
    ∙ passing_at (λ w. is_between (end_of c.args.low.now) (end_of c.args.high.now) w) c.args.self.now.1
    c.postings.result
    c.between.result k c.postings.ensures.words c.between.ensures (omega (arith, lt, c.requires)))
