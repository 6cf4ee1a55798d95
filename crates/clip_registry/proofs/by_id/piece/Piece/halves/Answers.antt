use Rattle.std.proofs.Common.{◌∙◌, ◌/◌, sym, ap}
use Rattle.clip_registry.proofs.Piecing.{cut_in_order, halved}
use Rattle.clip_registry.proofs.by_id.piece.Piece.halves.Goals as goal

pub copy_piece-requires : goal.copy_piece-requires
copy_piece-requires c =
    (cut_in_order c.self.inside.entries.items c.split_at.result.0.now c.split_at.result.1.now c.self.invariant
    (sym c.deref.ensures.value ∙ c.split_at.ensures.by_index.0)).0

pub copy_piece-requires-2 : goal.copy_piece-requires-2
copy_piece-requires-2 c =
    (cut_in_order c.self.inside.entries.items c.split_at.result.0.now c.split_at.result.1.now c.self.invariant
    (sym c.deref.ensures.value ∙ c.split_at.ensures.by_index.0)).1

pub returns : goal.returns
returns c =
    halved c.self.inside.entries.items c.split_at.result.0.now c.split_at.result.1.now c.args.self.now _ _
    c.self.invariant c.self.view_is (sym c.deref.ensures.value ∙ c.split_at.ensures.by_index.0)
    (c.split_at.ensures.front_len ∙ ap (λ n. n / 2) (c.len.ensures ∙ c.self.inside.entries.ok.0))
    c.in_ok-copy_piece.ensures c.in_ok-copy_piece-2.ensures
