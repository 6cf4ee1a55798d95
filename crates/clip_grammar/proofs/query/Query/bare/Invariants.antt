use Rattle.std.proofs.Common.{◌≡◌}
use Rattle.clip_grammar.specs.Tree.{bare, tree_of, nodes}
use Rattle.clip_grammar.proofs.query.Query.bare.Given as goal

-- as much is left of what is left as of the query
abbrev pub invariant-loop-child : goal.invariant-loop-child
invariant-loop-child l = bare (tree_of l.bare) ≡ bare (tree_of l.self)

abbrev pub decreases-loop-child : goal.decreases-loop-child
decreases-loop-child l = nodes (tree_of l.bare)
