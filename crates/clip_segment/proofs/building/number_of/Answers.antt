use Rattle.std.proofs.Common.{◌∙◌, sym}
use Rattle.clip_extract.specs.Keys.{key_of}
use Rattle.clip_plan.proofs.Numbering.{term_has_number}
use Rattle.clip_segment.proofs.building.number_of.Goals as goal

pub unreachable-requires : goal.unreachable-requires
unreachable-requires c =
    term_has_number c.args.terms.now (key_of c.args.key.now) c.requires (sym c.number.ensures ∙ c.in_default.is)
