use Rattle.std.proofs.Common.{◌<◌, arith}
use Rattle.clip_merge.proofs.Division.{divided_more, divided_is_level, few_levels}
use Rattle.clip_merge.proofs.levels.level.Goals as goal

pub overflow_add-level : goal.overflow_add-level
overflow_add-level c =
    let few : c.loop-rest.level < 32 =
    few_levels c.args.len c.loop-rest.level c.loop-rest.rest c.loop-rest.invariant (omega arith) (omega arith) in
    omega arith

pub loop-rest-preserved : goal.loop-rest-preserved
loop-rest-preserved c = divided_more c.args.len c.loop-rest.level c.loop-rest.rest c.loop-rest.invariant (omega arith)

pub returns : goal.returns
returns c = divided_is_level c.args.len c.loop-rest.level c.loop-rest.rest c.loop-rest.invariant (omega arith)
