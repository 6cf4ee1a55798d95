use Rattle.std.proofs.Common.{arith}
use Rattle.clip_grammar.proofs.Bare.{child_left, child_nodes, excluded_left, whole_left}
use Rattle.clip_grammar.proofs.query.Query.only_child.Goals as goal

pub returns-then-len-ne1-clause-none : goal.returns-then-len-ne1-clause-none
returns-then-len-ne1-clause-none c = λ none.
    whole_left c.args.self.now c.in-Group.clauses c.in-Group.is (λ one. c.if-len-ne1.true (omega (arith, one)))

pub returns-in-Must-clause-some : goal.returns-in-Must-clause-some
returns-in-Must-clause-some c =
    child_left c.args.self.now c.in-Group.clauses c.index.result.now c.in-Group.is (omega arith) c.index.ensures
    c.in-Must.is

pub returns-in-Must-clause-fewer : goal.returns-in-Must-clause-fewer
returns-in-Must-clause-fewer c =
    child_nodes c.args.self.now c.in-Group.clauses c.index.result.now c.in-Group.is (omega arith) c.index.ensures

pub returns-in-MustNot-clause-none : goal.returns-in-MustNot-clause-none
returns-in-MustNot-clause-none c = λ none.
    excluded_left c.args.self.now c.in-Group.clauses c.index.result.now c.in-Group.is (omega arith) c.index.ensures
    c.in-MustNot.is
