use Rattle.clip_gather.proofs.Maps.{never_map, map_never}
use Rattle.clip_engine.specs.Gathered.{id_of, told_of}
use Rattle.clip_engine.proofs.parts.is_in_order.Goals as goal

pub returns : goal.returns
returns c =
    let told = c.args.part.now.told.now in (
      λ is. map_never told_of id_of told (c.never_falls.ensures.0 is),
      λ falls. c.never_falls.ensures.1 (never_map told_of id_of told falls),
    )
