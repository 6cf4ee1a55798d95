-- What a line says, found step by step: its value, the request that has this value, and whether it is within limits.
use Rattle.std.specs.Prelude.{◌≡◌, List, ℕ, Bool, if◌then◌else◌, Option, Some, None, Result, Ok, Err, ⊤}
use Rattle.serde_json.specs.Data.{Data}
use Rattle.serde_json.specs.View.{view}
use Rattle.serde_json.specs.declared.value.Value.{Value}
use Rattle.clip_protocol.specs.LineMeaning.{Line, blank, refused, asks, is_long, is_blank, json_of}
use Rattle.clip_protocol.specs.declared.refusal.Refusal.TheVariants.{Long, Json, Shape, Limit}
use Rattle.clip_protocol.specs.declared.refusal.Unread.{Unread}
use Rattle.clip_protocol.specs.declared.refusal.Unread.TheVariants as unread

abbrev pub value_said : Option Data → Line Data
value_said None = refused Json
value_said (Some d) = asks d

-- the value of a line, which is not too long and not blank
unfoldable pub line_value : List ℕ → Line Data
line_value bytes =
    if is_long bytes then refused Long else (if is_blank bytes then blank else value_said (json_of bytes))

abbrev pub request_said : {R : Type 0} → (R → Bool) → Option R → Line R
request_said within None = refused Shape
request_said within (Some r) = if within r then asks r else refused Limit

-- a line with this value, by a reading of requests and by their limits
abbrev pub said_of : {R : Type 0} → (Data → Option R) → (R → Bool) → Line Data → Line R
said_of read within blank = blank
said_of read within (refused r) = refused r
said_of read within (asks d) = request_said within (read d)

-- What was read is the value that the line says, or nothing for a blank line, or this is its refusal.
abbrev pub ReadsValue : Line Data → Result (Option Value) Unread → Type 0
ReadsValue l (Ok None) = l ≡ blank
ReadsValue l (Ok (Some v)) = l ≡ asks (view v)
ReadsValue l (Err (unread.Refused r)) = l ≡ refused r
ReadsValue l (Err unread.NoMemory) = ⊤
