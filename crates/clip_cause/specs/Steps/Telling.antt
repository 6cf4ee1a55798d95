-- What a cause tells of a fault, of a value and of a line.
use Rattle.std.specs.Prelude.{◌≡◌, ℕ, List, Option, Some, None}
use Rattle.serde_json.specs.Data.{Data}
use Rattle.clip_protocol.specs.Steps.Outline.{Outline, outline}
use Rattle.clip_cause.specs.Causes.{IsCauseOf, IsWrongAt, told_of}
use Rattle.clip_cause.specs.Faults.{Fault}
use Rattle.clip_cause.specs.First.{IsToldAs}
use Rattle.clip_cause.specs.declared.cause.LineCause.{LineCause}

-- the value has a fault whose cause this is
pub record IsCauseIn (d : Data) (c : LineCause) : Type 0 where
  pub fault : Fault
  pub told : IsToldAs fault c
  pub wrong : IsWrongAt fault.0 fault.1 d

-- of a value whose outline this is: a cause, or that it has none to tell
abbrev pub TellsOf : Data → Outline → Option LineCause → Type 0
TellsOf d o None = told_of o ≡ None
TellsOf d o (Some c) = (told_of o ≡ Some c.refusal) × IsCauseIn d c

-- and of a line
abbrev pub TellsOfLine : List ℕ → Option LineCause → Type 0
TellsOfLine line None = told_of (outline line) ≡ None
TellsOfLine line (Some c) = (told_of (outline line) ≡ Some c.refusal) × IsCauseOf line c
