use Rattle.std.proofs.Common.{◌++◌, ap, ap₂, ◌∙◌, flat_map, map}
use Rattle.json.specs.Print.{print}
use Rattle.clip_meaning.specs.Hits.{hit_value}
use Rattle.clip_protocol.specs.Reply.{hit_data}
use Rattle.clip_protocol.specs.Steps.Printing.{data_tokens}
use Rattle.clip_protocol.proofs.Printed.{print-each}
use Rattle.clip_protocol.proofs.printing.hits_text.Goals as goal

pub returns : goal.returns
returns c =
    let ds = map hit_data (map hit_value c.args.hits.now) in
    let before = c.in_ok-write_each_hit.ensures.before ∙ c.new-out.ensures.before in
    let tokens = c.in_ok-write_each_hit.ensures.tokens
    ∙ ap (λ ts. ts ++ flat_map data_tokens ds) c.new-out.ensures.tokens in
    c.into_inner.ensures.items ∙ ap₂ (λ b ts. b ++ print ts) before tokens
    ∙ ap (λ t. c.args.text.items ++ t) (print-each ds)
