-- Answered here, so that a wrong body is refused at once.
use Rattle.std.proofs.Common.{rules, ◌≡◌, map, string_bytes, ap, sym, ◌∙◌}
use Rattle.std.specs.Char.{to_ascii_lowercase}
use Rattle.clip_words.proofs.Folding.{fold_of_ascii}
use Rattle.clip_words.proofs.fold_ascii_into.Goals as goal

pub returns : goal.returns
returns c =
    let pushed : string_bytes c.push_str.new.self ≡ c.args.text.now = search rules in
    c.make_ascii_lowercase.ensures.bytes ∙ ap (map to_ascii_lowercase) pushed
    ∙ sym (fold_of_ascii c.args.text.now (search rules))
