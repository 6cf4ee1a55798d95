use Rattle.std.proofs.Common.{◌∙◌, ap, ◌++◌, ◌∷◌, []}
use Rattle.clip_registry.proofs.Piecing.{Items, one_entry}
use Rattle.clip_registry.proofs.by_id.piece.Piece.of.Goals as goal

pub returns : goal.returns
returns c = one_entry c.push.new.self.items c.args.entry (c.in_ok-push.ensures.items
    ∙ ap (λ (xs : Items). xs ++ c.args.entry ∷ []) c.new-entries.ensures.items)
