use Rattle.std.proofs.Common.{◌≡◌, map, drop}
use Rattle.std.specs.Arc.{arc_value}
use Rattle.clip_registry.specs.Steps.Roster.{HaveGone, SeqsFollow, roster_with_all}
use Rattle.clip_registry.proofs.roster.Roster.with_entries.Given as goal

abbrev pub invariant-loop-entry : goal.invariant-loop-entry
invariant-loop-entry l = record {
  follow : SeqsFollow l.roster.listed (map arc_value (drop l.entry-index l.entries));
  entered : roster_with_all l.roster (map arc_value (drop l.entry-index l.entries))
      ≡ roster_with_all l.initial.roster (map arc_value l.entries);
  gone : HaveGone l.gone.items l.initial.roster l.roster;
}
