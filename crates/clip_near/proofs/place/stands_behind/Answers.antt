use Rattle.clip_grammar.specs.Tree.{tree_of}
use Rattle.clip_near.proofs.Ends.{close_behind}
use Rattle.clip_near.proofs.place.stands_behind.Goals as goal

pub returns : goal.returns
returns c =
    close_behind c.args.between c.args.end c.in-Some.end (tree_of c.args.query.now)
    c.args.words.now c.args.position c.stands.result c.in-Some.is c.if-position-end.false
    c.if-position-end-2.false c.stands.ensures
