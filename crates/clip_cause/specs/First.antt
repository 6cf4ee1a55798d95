-- The first fault of a line's value, in the order in which the program judges, and the cause that tells it.
use Rattle.std.specs.Prelude.{◌≡◌, ℕ, List, Option, Some, None, string_bytes, ⊤}
use Rattle.serde_json.specs.Data.{Data}
use Rattle.clip_protocol.specs.LineMeaning.{IsFilled, json_of}
use Rattle.clip_protocol.specs.Request.{Request, value_of}
use Rattle.clip_cause.specs.Faults.{Fault}
use Rattle.clip_cause.specs.Limits.{limit_fault}
use Rattle.clip_cause.specs.Path.{Path, path_text}
use Rattle.clip_cause.specs.Shapes.{shape_fault}
use Rattle.clip_cause.specs.Wrong.{refusal_of}
use Rattle.clip_cause.specs.declared.cause.LineCause.{LineCause}
use Rattle.clip_cause.specs.declared.cause.Place.{Place}
use Rattle.clip_cause.specs.declared.cause.Place.TheVariants.{Byte, Member}

-- ---- the first fault

-- one of the shape, or where the shape has none, of the limits of the request that the value is
abbrev pub ComesFirst : (shape : Option Fault) → Data → Option Fault → Type 0
ComesFirst (Some f) d fault = fault ≡ Some f
ComesFirst None d fault = (r : Request) × (d ≡ value_of r) × (fault ≡ limit_fault r)

-- the first fault of a line's value is this one, or it has none
abbrev pub IsFirstFault : Data → Option Fault → Type 0
IsFirstFault d fault = ComesFirst (shape_fault d) d fault

-- ---- the cause that tells it

-- the place is the text of the path
abbrev pub HasPath : Path → Place → Type 0
HasPath path (Byte at) = ⊥
HasPath path (Member text) = string_bytes text ≡ path_text path

-- the cause is this fault's
pub record IsToldAs (f : Fault) (c : LineCause) : Type 0 where
  pub place : HasPath f.0 c.place
  pub wrong : c.wrong ≡ f.1
  pub refusal : c.refusal ≡ refusal_of f.1

-- the fault is told, or there is none to tell
abbrev pub Tells : Option Fault → Option LineCause → Type 0
Tells None None = ⊤
Tells (Some f) (Some c) = IsToldAs f c
Tells None (Some c) = ⊥
Tells (Some f) None = ⊥

-- of a value its first fault
abbrev pub TellsFirst : Data → Option LineCause → Type 0
TellsFirst d found = (fault : Option Fault) × IsFirstFault d fault × Tells fault found

-- and of a line that is neither too long nor blank, and is a JSON value
abbrev pub TellsFirstOf : List ℕ → Option LineCause → Type 0
TellsFirstOf line found = IsFilled line → (d : Data) → json_of line ≡ Some d → TellsFirst d found
