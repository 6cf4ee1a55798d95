-- A roster as its fields hold it.
use Rattle.clip_model.specs.Steps.Numbered.{IsNumbered}
use Rattle.clip_registry.specs.Steps.Roster.{Roster}
use Rattle.clip_registry.specs.declared.roster.Roster.TheInside.{Inside}

abbrev pub roster_of : Inside → Roster
roster_of r = record { registry = r.by_id; listed = r.listed }

-- The seqs are numbers of their own, up to how many were listed.
abbrev pub IsRoster : Inside → Type 0
IsRoster r = IsNumbered r.listed r.by_id
