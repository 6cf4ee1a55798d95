use Rattle.std.proofs.Common.{◌≡◌, ◌+◌}
use Rattle.clip_grammar.specs.Tree.{nodes, tree_of}
use Rattle.clip_explain.proofs.Sizes.{nodes_from}
use Rattle.clip_explain.proofs.explaining.+node_count.Given as goal

abbrev pub invariant-loop-child : goal.invariant-loop-child
invariant-loop-child l = l.count + nodes_from l.child-index l.child-items ≡ nodes (tree_of l.query)
