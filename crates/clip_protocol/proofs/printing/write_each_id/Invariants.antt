use Rattle.std.proofs.Common.{◌≡◌, ◌++◌, drop, flat_map, map}
use Rattle.serde_json.specs.Data.{string}
use Rattle.clip_protocol.specs.Steps.Printing.{data_tokens}
use Rattle.clip_protocol.proofs.printing.write_each_id.Given as goal

abbrev pub invariant-loop-id : goal.invariant-loop-id
invariant-loop-id l = record {
  tokens : l.out.tokens ++ flat_map data_tokens (map string (map (λ id. id.now) (drop l.id-index l.ids)))
      ≡ l.initial.out.tokens ++ flat_map data_tokens (map string (map (λ id. id.now) l.ids));
  before : l.out.before ≡ l.initial.out.before;
}
