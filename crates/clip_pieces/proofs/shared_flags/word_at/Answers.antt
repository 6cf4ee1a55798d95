use Rattle.std.proofs.Common.{◌/◌, unwrap_or, ap, ◌∙◌}
use Rattle.std.proofs.lemmas.Option.{unwrap_or-slice_get}
use Rattle.clip_pieces.proofs.shared_flags.word_at.Goals as goal

pub returns : goal.returns
returns c = c.unwrap_or.ensures ∙ ap (λ word. unwrap_or word 0) (c.copied.ensures ∙ c.get.ensures)
    ∙ unwrap_or-slice_get c.args.words.now (c.args.place / 64) 0
