-- What contracts see of faults of lines.
use Rattle.std.specs.Prelude.{◌≡◌, ℕ, List, Option, Some, None, string_bytes}
use Rattle.serde_json.specs.Data.{Data}
use Rattle.clip_protocol.specs.LineMeaning.{IsAQuery}
use Rattle.clip_protocol.specs.declared.refusal.Refusal.TheVariants.{Query}
use Rattle.clip_cause.specs.Path.{path_text}
use Rattle.clip_cause.specs.declared.cause.Place.{Place}
use Rattle.clip_cause.specs.declared.cause.Place.TheVariants.{Byte, Member}
use Rattle.clip_explain_lines.specs.LineTold.{at_byte, at_member, not_refused, query_path, refused_there}
use Rattle.clip_explain_lines.specs.declared.lines.LineFault.{LineFault}

abbrev pub place_data : Place → List ℕ × Data
place_data (Byte at) = at_byte at
place_data (Member path) = at_member (string_bytes path)

abbrev pub fault_data : LineFault → Data
fault_data f = refused_there (place_data f.place) f.refusal f.says.now

-- what is told of a fault, or of none
abbrev pub told_data : Option LineFault → Data
told_data None = not_refused
told_data (Some f) = fault_data f

-- the text at this place of a list is a query, or this is told of it
abbrev pub IsFaultOfQuery : List ℕ → ℕ → Option LineFault → Type 0
IsFaultOfQuery text place None = IsAQuery text
IsFaultOfQuery text place (Some f) = ¬ (IsAQuery text)
    × (fault_data f ≡ refused_there (at_member (path_text (query_path place))) Query f.says.now)
