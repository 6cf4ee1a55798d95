use Rattle.std.proofs.Common.{sym, ◌∙◌}
use Rattle.clip_grammar.specs.Tree.{tree_of}
use Rattle.clip_near.proofs.Ends.{next_end, same_end}
use Rattle.clip_near.proofs.place.last_end.Goals as goal

pub returns-then-ends_at : goal.returns-then-ends_at
returns-then-ends_at c =
    next_end (tree_of c.args.query.now) c.args.words.now c.args.position
    (sym c.ends_at.ensures ∙ c.if-ends_at.true)

pub returns : goal.returns
returns c =
    same_end (tree_of c.args.query.now) c.args.words.now c.args.position c.args.before
    c.requires.before (sym c.ends_at.ensures ∙ c.if-ends_at.false)
