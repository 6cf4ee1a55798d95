use Rattle.clip_grammar.specs.Tree.{tree_of}
use Rattle.clip_near.proofs.Ends.{ends_there}
use Rattle.clip_near.proofs.place.ends_at.Goals as goal

pub returns-then-taken-position : goal.returns-then-taken-position
returns-then-taken-position c =
    ends_there (tree_of c.args.query.now) c.args.words.now c.args.position c.args.taken
    c.stands.result c.requires c.if-taken-position.true c.stands.ensures
