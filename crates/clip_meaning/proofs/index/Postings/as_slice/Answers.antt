use Rattle.std.proofs.Common.{◌∙◌, ap, map}
use Rattle.clip_meaning.proofs.Occurrences.{positions_told}
use Rattle.clip_meaning.proofs.WordOrder.{Place}
use Rattle.clip_meaning.proofs.index.Postings.as_slice.Goals as goal

pub returns : goal.returns
returns c =
    positions_told c.self.inside.words.now c.self.inside.occurrences.now
    ∙ ap (map (λ (p : Place). p.1)) c.self.view_is
