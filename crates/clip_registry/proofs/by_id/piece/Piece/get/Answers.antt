use Rattle.std.proofs.Common.{◌∙◌, ap, Some}
use Rattle.clip_registry.proofs.Piecing.{got, within}
use Rattle.clip_registry.proofs.by_id.piece.Piece.get.Goals as goal

pub index-requires : goal.index-requires
index-requires c =
    rw c.self.inside.entries.ok.0
    (within c.self.inside.entries.items c.args.self.now c.self.invariant c.self.view_is c.in-Ok.place c.args.id.now
    c.in-Ok.ensures.found.0 c.in-Ok.ensures.found.1)

pub returns-in-Ok : goal.returns-in-Ok
returns-in-Ok c =
    ap (λ a. Some a.value) c.index.ensures
    ∙ got c.self.inside.entries.items c.args.self.now c.self.invariant c.self.view_is c.in-Ok.place c.args.id.now
    c.index.result.now c.in-Ok.ensures.found.0 c.in-Ok.ensures.found.1
