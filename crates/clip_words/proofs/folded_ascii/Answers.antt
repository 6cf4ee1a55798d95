use Rattle.std.proofs.Common.{rules, ◌≡◌, map, sym, ◌∙◌}
use Rattle.std.specs.Char.{to_ascii_lowercase}
use Rattle.clip_words.proofs.Folding.{fold_of_ascii}
use Rattle.clip_words.proofs.folded_ascii.Goals as goal

pub returns : goal.returns
returns c =
    let lower : map to_ascii_lowercase c.args.word.now ≡ c.args.word.now = search rules in
    sym (fold_of_ascii c.args.word.now c.requires ∙ lower)
