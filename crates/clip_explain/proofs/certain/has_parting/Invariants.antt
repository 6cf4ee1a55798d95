use Rattle.std.proofs.Common.{◌≡◌, drop}
use Rattle.std.specs.List.{list_any}
use Rattle.clip_explain.specs.Certain.{is_parting}
use Rattle.clip_explain.proofs.certain.has_parting.Given as goal

abbrev pub invariant-loop-byte : goal.invariant-loop-byte
invariant-loop-byte l = list_any is_parting (drop l.byte-index l.bytes) ≡ list_any is_parting l.bytes
