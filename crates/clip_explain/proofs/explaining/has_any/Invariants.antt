use Rattle.std.proofs.Common.{◌≡◌, drop, map}
use Rattle.std.specs.List.{list_any}
use Rattle.clip_extract.specs.Keys.{key_of}
use Rattle.clip_explain.specs.Explaining.{is_any}
use Rattle.clip_explain.proofs.explaining.has_any.Given as goal

abbrev pub invariant-loop-key : goal.invariant-loop-key
invariant-loop-key l = list_any is_any (map key_of (drop l.key-index l.keys)) ≡ list_any is_any (map key_of l.keys)
