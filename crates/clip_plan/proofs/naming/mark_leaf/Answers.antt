use Rattle.std.proofs.Common.{◌||◌, map, get_or, sym, ap, ◌∙◌}
use Rattle.clip_grammar.specs.Tree.{tree_of}
use Rattle.clip_meaning.specs.Steps.Marks.{is_up}
use Rattle.clip_plan.specs.Steps.Judging.{meant}
use Rattle.clip_plan.specs.Steps.Naming.{mark_names}
use Rattle.clip_plan.proofs.naming.mark_leaf.Goals as goal

pub returns-in-Pair-clause-raised : goal.returns-in-Pair-clause-raised
returns-in-Pair-clause-raised c k lt =
    let spots = c.args.spots.now in
    c.mark_run.ensures.raised k lt
    ∙ ap (λ step. is_up (get_or c.args.flags.now k 0)
    || mark_names spots.field k (meant c.args.runs.now (map tree_of c.args.queries.now) spots.terms step))
    (sym c.in-Pair.is)
