-- What lies at the address of a slot.
use Rattle.std.specs.Prelude.{Option, Some, None}
use base.Fml.{Fml}
use base.Stored.{Coded}
use Rattle.std.specs.Coded.{coded_option}
use Rattle.std.specs.Ptr.{Ptr, points_to, uninit_at}
use Rattle.clip_engine.specs.contracts.kept.Kept.{the_row}

-- what is kept lies there, or there is room for it
abbrev pub lies_in : Ptr → Option the_row.Denot → Fml
lies_in at None = uninit_at the_row at
lies_in at (Some kept) = points_to the_row at kept

abbrev pub kept_code : Coded (Option the_row.Denot)
kept_code = coded_option the_row.coded
