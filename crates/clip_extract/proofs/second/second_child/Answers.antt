use Rattle.std.proofs.Common.{option_map, sym, ap, ◌∙◌}
use Rattle.clip_extract.specs.Steps.Seconds.{ranked, weighed}
use Rattle.clip_extract.proofs.Seconds.{second_is}
use Rattle.clip_extract.proofs.second.second_child.Goals as goal

pub returns-in_err-second : goal.returns-in_err-second
returns-in_err-second c =
    rw c.from_residual.ensures
    (sym (second_is c.args.query.now c.in-Group.clauses c.deref-occur-items.result.now c.loop-occur.occur-index
    (ranked c.loop-occur.ranking) c.in-Group.is c.deref-occur-items.ensures.value c.loop-occur-test.false
    c.loop-occur.invariant
    ∙ ap (option_map weighed) c.in_err-second.was))

pub returns : goal.returns
returns c =
    sym (second_is c.args.query.now c.in-Group.clauses c.deref-occur-items.result.now c.loop-occur.occur-index
    (ranked c.loop-occur.ranking) c.in-Group.is c.deref-occur-items.ensures.value c.loop-occur-test.false
    c.loop-occur.invariant
    ∙ ap (option_map weighed) c.in_ok-second.was)
