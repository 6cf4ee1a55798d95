use Rattle.std.proofs.Common.{◌≡◌, ◌++◌, drop, flat_map, map}
use Rattle.clip_meaning.specs.Hits.{hit_value}
use Rattle.clip_protocol.specs.Reply.{hit_data}
use Rattle.clip_protocol.specs.Steps.Printing.{data_tokens}
use Rattle.clip_protocol.proofs.printing.write_each_hit.Given as goal

abbrev pub invariant-loop-hit : goal.invariant-loop-hit
invariant-loop-hit l = record {
  tokens : l.out.tokens ++ flat_map data_tokens (map hit_data (map hit_value (drop l.hit-index l.hits)))
      ≡ l.initial.out.tokens ++ flat_map data_tokens (map hit_data (map hit_value l.hits));
  before : l.out.before ≡ l.initial.out.before;
}
