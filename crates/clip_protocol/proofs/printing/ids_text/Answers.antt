use Rattle.std.proofs.Common.{◌++◌, ap, ap₂, ◌∙◌, flat_map, map}
use Rattle.json.specs.Print.{print}
use Rattle.serde_json.specs.Data.{string}
use Rattle.clip_protocol.specs.Steps.Printing.{data_tokens}
use Rattle.clip_protocol.proofs.Printed.{print-each}
use Rattle.clip_protocol.proofs.printing.ids_text.Goals as goal

pub returns : goal.returns
returns c =
    let ds = map string (map (λ id. id.now) c.args.ids.now) in
    let before = c.in_ok-write_each_id.ensures.before ∙ c.new-out.ensures.before in
    let tokens = c.in_ok-write_each_id.ensures.tokens
    ∙ ap (λ ts. ts ++ flat_map data_tokens ds) c.new-out.ensures.tokens in
    c.into_inner.ensures.items ∙ ap₂ (λ b ts. b ++ print ts) before tokens
    ∙ ap (λ t. c.args.text.items ++ t) (print-each ds)
