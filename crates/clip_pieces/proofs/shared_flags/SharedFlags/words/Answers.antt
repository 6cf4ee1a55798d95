use Rattle.std.proofs.Common.{◌-◌, ◌*◌, false, length, get_or, ap, ◌∙◌}
use Rattle.clip_pieces.specs.Steps.Bits.{flags_of}
use Rattle.clip_pieces.proofs.Both.{all_held}
use Rattle.clip_pieces.proofs.shared_flags.SharedFlags.words.Goals as goal

pub returns : goal.returns
returns c =
    λ place. all_held c.self.inside.len (64 * length c.self.inside.words - c.self.inside.len)
    (flags_of c.self.inside.words) c.self.invariant.2 place
    ∙ ap (λ flags. get_or flags place false) c.self.view_is
