use Rattle.std.proofs.Common.{◌≡◌, map, drop, string_bytes}
use Rattle.clip_registry.specs.Steps.Roster.{HaveGone, roster_without}
use Rattle.clip_registry.proofs.roster.Roster.without_ids.Given as goal

abbrev pub invariant-loop-id : goal.invariant-loop-id
invariant-loop-id l = record {
  left : roster_without l.roster (map string_bytes (drop l.id-index l.ids))
      ≡ roster_without l.initial.roster (map string_bytes l.ids);
  gone : HaveGone l.gone.items l.initial.roster l.roster;
}
