use Rattle.std.proofs.Common.{rules}
use Rattle.clip_explain.proofs.Sizes.{small}
use Rattle.clip_explain.proofs.explaining.explain.Goals as goal

pub node_count-requires : goal.node_count-requires
node_count-requires c = small _ _ c.in-Ok.ensures.read c.in-Ok.ensures.kept

-- Answered here, so that a wrong body is refused at once.
pub returns-in-Err : goal.returns-in-Err
returns-in-Err c = search rules

pub returns : goal.returns
returns c = record {
  reads = c.in-Ok.ensures.read;
  faultless = c.in-Ok.ensures.kept;
  keys = search rules;
  weight = c.weight.ensures;
  nodes = c.node_count.ensures;
  tried_on_all = search rules;
  never = c.is_never.ensures;
  always = c.is_always.ensures;
}
