use Rattle.std.proofs.Common.{◌∙◌, ◌||◌, [], ap, sym, get_or, map}
use Rattle.clip_grammar.specs.Tree.{clauses_of, tree_of}
use Rattle.clip_grammar.proofs.Trees.{tree_of_group}
use Rattle.clip_meaning.specs.Hits.{is_named, is_named_by}
use Rattle.clip_meaning.specs.Steps.Marks.{is_up}
use Rattle.clip_meaning.proofs.Marks.{asked, named_by, raise_end}
use Rattle.clip_meaning.proofs.hit.+mark.Goals as goal

pub returns-after-loop-occur-clause-raised : goal.returns-after-loop-occur-clause-raised
returns-after-loop-occur-clause-raised t c k lt =
    let old = is_up (get_or c.args.flags.now k 0) in
    let field = c.args.field.now in
    let cs = c.deref-occur-items.result.now in
    raise_end (asked field k) cs c.loop-occur.occur-index _ _ c.loop-occur-test.false
    (c.loop-occur.invariant.raised k lt)
    ∙ ap (λ b. old || b) (named_by field k cs
    ∙ ap (λ xs. is_named_by (clauses_of (map (λ x. (x.0, tree_of x.1)) xs)) field.0 field.1 (get_or field.1 k [], k))
    c.deref-occur-items.ensures.value
    ∙ ap (λ q. is_named q field.0 field.1 (get_or field.1 k [], k)) (sym (tree_of_group c.in-Group.clauses))
    ∙ ap (λ q. is_named (tree_of q) field.0 field.1 (get_or field.1 k [], k)) (sym c.in-Group.is))
