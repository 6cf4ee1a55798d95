use Rattle.std.proofs.Common.{◌≡◌, drop, map, string_bytes}
use Rattle.clip_cause.specs.Names.{ids}
use Rattle.clip_cause.specs.Limits.{each_fault, id_fault}
use Rattle.clip_cause.proofs.limits.ids_fault.Given as goal

abbrev pub invariant-loop-place : goal.invariant-loop-place
invariant-loop-place l = each_fault ids id_fault l.place (map string_bytes (drop l.place l.listed))
    ≡ each_fault ids id_fault 0 (map string_bytes l.listed)
