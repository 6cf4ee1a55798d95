use Rattle.std.proofs.Common.{◌+◌, ◌∙◌, sym, ap, arith}
use Rattle.std.proofs.lemmas.Grind.{common_steps}
use Rattle.clip_grammar.specs.Tree.{tree_of, nodes}
use Rattle.clip_explain.proofs.Sizes.{nodes_from, from_start}
use Rattle.clip_explain.proofs.explaining.+node_count.Goals as goal

pub loop-child-init : goal.loop-child-init
loop-child-init t c =
    ap (λ cs. 1 + nodes_from 0 cs) c.deref-child-items.ensures.value
    ∙ from_start c.in-Group.clauses
    ∙ ap (λ q. nodes (tree_of q)) (sym c.in-Group.is)

pub loop-child-preserved : goal.loop-child-preserved
loop-child-preserved t c = grind (arith, common_steps)
