use Rattle.std.proofs.Common.{sym, ◌∙◌, arith}
use Rattle.clip_grammar.specs.Tree.{tree_of}
use Rattle.clip_near.specs.Near.{stand_close}
use Rattle.clip_near.proofs.Ends.{found_here, not_here, none_upto, none_close}
use Rattle.clip_near.proofs.place.is_followed.Goals as goal

pub loop-position-preserved : goal.loop-position-preserved
loop-position-preserved c =
    let first = tree_of c.args.first.now in
    let second = tree_of c.args.second.now in
    let words = c.args.words.now in
    let here = not_here c.args.between first second words c.loop-position.position c.last_end-end.result
    c.last_end-end.ensures (sym c.stands_behind.ensures ∙ c.if-stands_behind.false) in
    record {
      last = c.last_end-end.ensures;
      none = none_upto (stand_close c.args.between first second words) c.loop-position.position
          c.loop-position.invariant.none here;
    }

pub returns-then-stands_behind : goal.returns-then-stands_behind
returns-then-stands_behind c =
    sym (found_here c.args.between (tree_of c.args.first.now) (tree_of c.args.second.now)
    c.args.words.now c.loop-position.position c.last_end-end.result c.last_end-end.ensures
    (sym c.stands_behind.ensures ∙ c.if-stands_behind.true))

pub returns : goal.returns
returns c =
    sym (none_close c.args.between (tree_of c.args.first.now) (tree_of c.args.second.now) c.args.words.now
    (λ i j lt. c.loop-position.invariant.none i j
    (omega (arith, lt, c.len-position-end.ensures, c.loop-position-test.false))))
