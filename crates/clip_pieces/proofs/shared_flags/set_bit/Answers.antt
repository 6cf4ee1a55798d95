use Rattle.std.proofs.Common.{◌≡◌, ◌/◌, get_or, ap, ◌∙◌, arith}
use Rattle.std.proofs.lemmas.List.{get_or_default}
use Rattle.clip_pieces.specs.Steps.Bits.{flags_of}
use Rattle.clip_pieces.proofs.Words.{set_flag}
use Rattle.clip_pieces.proofs.shared_flags.set_bit.Goals as goal

pub returns-clause-ok : goal.returns-clause-ok
returns-clause-ok c =
    let words = c.args.words.now in
    let place = c.args.place in
    let word = c.word_at.result in
    let is : word ≡ get_or words (place / 64) word =
    c.word_at.ensures ∙ get_or_default words (place / 64) 0 word (omega (arith, c.requires)) in
    ap flags_of (c.fold_clear.ensures ∙ c.in_ok-set.ensures.ok)
    ∙ set_flag words place word c.requires is c.with_bit-word.result c.args.flag c.with_bit-word.ensures
