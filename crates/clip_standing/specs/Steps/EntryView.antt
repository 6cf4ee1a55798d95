-- An entry as contracts see it.
use Rattle.clip_model.specs.History.{Registered}
use Rattle.clip_standing.specs.declared.entry.Entry.TheInside.{Inside}

-- the registered query that an entry is
abbrev pub registered_of : Inside → Registered
registered_of e = record { standing = e.standing.value; seq = e.seq }
