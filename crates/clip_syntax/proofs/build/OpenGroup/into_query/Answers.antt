use Rattle.clip_grammar.proofs.Trees.{tree_of_group}
use Rattle.clip_syntax.proofs.build.OpenGroup.into_query.Goals as goal

pub returns : goal.returns
returns c = tree_of_group c.args.self.clauses
