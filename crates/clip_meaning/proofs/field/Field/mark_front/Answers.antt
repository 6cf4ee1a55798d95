use Rattle.std.proofs.Common.{◌∙◌, ◌||◌, ap, arith, get_or, nat_eq}
use Rattle.clip_meaning.specs.Meaning.{begins_with}
use Rattle.clip_meaning.specs.Steps.Marks.{is_up}
use Rattle.clip_meaning.proofs.Marks.{passing_at}
use Rattle.clip_meaning.proofs.Occurrences.{any_position}
use Rattle.clip_meaning.proofs.field.Field.mark_front.Goals as goal

pub returns-clause-raised : goal.returns-clause-raised
returns-clause-raised c k lt =
    let old = is_up (get_or c.args.flags.now k 0) in
    c.raise_all.ensures.raised k lt
    ∙ ap (λ b. old || b) (any_position (nat_eq k) c.with_front.result c.as_slice.result.now c.as_slice.ensures
    ∙ passing_at (λ w. begins_with c.args.front.now w) c.args.self.now.1 c.postings.result
    c.with_front.result k c.postings.ensures.words c.with_front.ensures (omega (arith, lt, c.requires)))
