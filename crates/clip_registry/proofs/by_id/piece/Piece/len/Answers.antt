use Rattle.std.proofs.Common.{◌∙◌}
use Rattle.clip_registry.proofs.Piecing.{piece_len}
use Rattle.clip_registry.proofs.by_id.piece.Piece.len.Goals as goal

pub returns : goal.returns
returns c = c.len.ensures ∙ c.self.inside.entries.ok.0
    ∙ piece_len c.self.inside.entries.items c.args.self.now c.self.invariant c.self.view_is
