use Rattle.std.proofs.Common.{◌++◌, ◌∷◌, [], ap, ◌∙◌, flat_map, map}
use Rattle.json.specs.Token.{end_array}
use Rattle.serde_json.specs.Data.{string}
use Rattle.clip_grammar.specs.Tree.{tree_of}
use Rattle.clip_protocol.specs.Steps.Printing.{data_tokens}
use Rattle.clip_protocol.proofs.Printed.{array_tokens}
use Rattle.clip_explain_lines.specs.TreeData.{words_in}
use Rattle.clip_explain_lines.proofs.words.write_words.Goals as goal

pub returns : goal.returns
returns c =
    let ds = map string (words_in (tree_of c.args.query.now)) in
    let begun = ap (λ ts. ts ++ flat_map data_tokens ds) c.in_ok-begin_array.ensures.ok in
    record {
      tokens =
          c.in_ok-end_array.ensures.ok
          ∙ ap (λ ts. ts ++ end_array ∷ []) (c.in_ok-write_words_in.ensures.tokens ∙ begun)
          ∙ array_tokens c.args.out.now.tokens ds;
      before =
          c.in_ok-end_array.ensures.room.0 ∙ c.in_ok-write_words_in.ensures.before
          ∙ c.in_ok-begin_array.ensures.room.0;
    }
