-- The tree of a query that is a group.
use Rattle.std.proofs.Common.{◌≡◌, sym, ap, ◌∙◌, map, Vec, Global}
use Rattle.clip_grammar.specs.Tree.{Tree, clauses_of, tree_of, tree_step}
use Rattle.clip_grammar.specs.declared.query.Occur.{Occur}
use Rattle.clip_grammar.specs.declared.query.Query.{Query}
use Rattle.clip_grammar.specs.declared.query.Query.TheOpen as layer
use Rattle.clip_grammar.specs.declared.query.Query.TheViews.{Group, roll-Query}
use Rattle.clip_grammar.specs.declared.query.Query.TheVariants.{rolls-Group}
use Rattle.clip_grammar.specs.declared.query.Query.TheFolds.{fold-roll-Query}

group_rolled : (v : Vec (Occur × Query) Global) → tree_of (roll-Query (layer.Group v))
    ≡ Tree.Group (clauses_of (map (λ c. (c.0, tree_of c.1)) v.items))
group_rolled v = fold-roll-Query Tree tree_step (layer.Group v)

-- The tree of a group has the trees of its clauses.
pub tree_of_group : (v : Vec (Occur × Query) Global)
    → tree_of (Group v) ≡ Tree.Group (clauses_of (map (λ c. (c.0, tree_of c.1)) v.items))
tree_of_group v = ap tree_of (sym (rolls-Group v)) ∙ group_rolled v
