-- A standing query as contracts see it.
use Rattle.std.specs.Prelude.{option_map}
use Rattle.std.specs.Arc.{arc_str_bytes}
use Rattle.clip_model.specs.Standing.{Standing}
use Rattle.clip_standing.specs.declared.standing.Standing.TheInside.{Inside}

-- its texts are their bytes, and its tree is what its text is read as
abbrev pub standing_of : Inside → Standing
standing_of s = record {
  id = arc_str_bytes s.id;
  text = arc_str_bytes s.text;
  tree = s.reading.0;
  listener = option_map arc_str_bytes s.listener;
}
