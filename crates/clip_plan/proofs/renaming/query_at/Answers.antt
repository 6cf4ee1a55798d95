use Rattle.std.proofs.Common.{◌≤◌, map, length, sym, ◌∙◌, arith}
use Rattle.std.proofs.lemmas.List.{length-map}
use Rattle.clip_grammar.specs.Tree.{Tree, tree_of}
use Rattle.clip_plan.proofs.Leaves.{tree_of_all}
use Rattle.clip_plan.proofs.Renumbering.{past_last}
use Rattle.clip_plan.proofs.renaming.query_at.Goals as goal

pub returns-in-None : goal.returns-in-None
returns-in-None c =
    let far : length c.args.queries.now ≤ c.args.place = c.in-None.ensures.lookup.3 in
    tree_of_all ∙ sym (past_last (map tree_of c.args.queries.now) c.args.place Tree.All
    (omega (arith, far, length-map c.args.queries.now tree_of)))
