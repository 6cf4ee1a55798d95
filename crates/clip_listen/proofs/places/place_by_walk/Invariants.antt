use Rattle.std.proofs.Common.{◌≡◌, bytes_eq, drop}
use Rattle.std.specs.List.{position_from}
use Rattle.clip_listen.specs.Heard.{names_of}
use Rattle.clip_listen.proofs.places.place_by_walk.Given as goal

-- the place among all the parts is the place among those that are left
abbrev pub invariant-loop-part : goal.invariant-loop-part
invariant-loop-part g l = record {
  counted : l.at ≡ l.part-index;
  left : position_from (bytes_eq l.name) l.at (names_of (drop l.part-index l.parts))
      ≡ position_from (bytes_eq l.fn.name) 0 (names_of l.fn.parts);
  name : l.name ≡ l.fn.name;
}
