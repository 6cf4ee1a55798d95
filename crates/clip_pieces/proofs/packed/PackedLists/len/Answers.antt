use Rattle.std.proofs.Common.{arith}
use Rattle.clip_words.proofs.Cuts.{length-cut}
use Rattle.clip_pieces.proofs.packed.PackedLists.len.Goals as goal

pub returns : goal.returns
returns g c =
    let long = length-cut 0 c.self.inside.ends.items c.self.inside.items.items in
    let fits = c.self.inside.ends.ok.0 in
    rw (← c.self.view_is) (omega (arith, long, fits, c.len.ensures))
