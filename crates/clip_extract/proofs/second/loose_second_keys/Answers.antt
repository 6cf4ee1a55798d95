use Rattle.std.proofs.Common.{◌≡◌, [], map, unwrap_or, sym, ap, ◌∙◌, rules}
use Rattle.clip_grammar.specs.Tree.{tree_of}
use Rattle.clip_extract.specs.Keys.{key_of}
use Rattle.clip_extract.specs.Extraction.{only_words, second_extract, unnarrowed}
use Rattle.clip_extract.proofs.second.loose_second_keys.Goals as goal

pub returns-in-None : goal.returns-in-None
returns-in-None c =
    let none : second_extract (tree_of c.args.query.now) ≡ [] =
    ap (λ o. only_words (unwrap_or o unnarrowed).keys) (sym c.in-None.ensures) in
    let start : map key_of c.new.result.items ≡ [] = search rules in
    start ∙ sym none
