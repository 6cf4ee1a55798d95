use Rattle.std.proofs.Common.{◌++◌, ◌∷◌, [], ap, ◌∙◌, flat_map, map}
use Rattle.json.specs.Token.{end_array}
use Rattle.clip_meaning.specs.Hits.{hit_value}
use Rattle.clip_protocol.specs.Reply.{hit_data}
use Rattle.clip_protocol.specs.Steps.Printing.{data_tokens}
use Rattle.clip_protocol.proofs.Printed.{array_tokens}
use Rattle.clip_protocol.proofs.printing.write_hits.Goals as goal

pub returns : goal.returns
returns c =
    let ds = map hit_data (map hit_value c.args.hits.now) in
    record {
      tokens =
          c.in_ok-end_array.ensures.ok
          ∙ ap (λ ts. ts ++ end_array ∷ []) (c.in_ok-write_each_hit.ensures.tokens
          ∙ ap (λ ts. ts ++ flat_map data_tokens ds) c.in_ok-begin_array.ensures.ok)
          ∙ array_tokens c.args.out.now.tokens ds;
      before = c.in_ok-end_array.ensures.room.0 ∙ c.in_ok-write_each_hit.ensures.before
          ∙ c.in_ok-begin_array.ensures.room.0;
    }
