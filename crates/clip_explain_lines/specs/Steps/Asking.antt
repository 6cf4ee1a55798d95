-- What contracts see of the lines of the input.
use Rattle.std.specs.Prelude.{ℕ, List, String, string_bytes}
use Rattle.std.specs.Global.{Global}
use Rattle.serde_json.specs.Data.{Data}
use Rattle.serde_json.specs.View.{view}
use Rattle.serde_json.specs.declared.value.Value.{Value}
use Rattle.clip_explain_lines.specs.Asked as asked
use Rattle.clip_explain_lines.specs.declared.asked.Ask.{Ask}
use Rattle.clip_explain_lines.specs.declared.asked.Ask.TheVariants.{Query, Text, Line}
use Rattle.clip_explain_lines.specs.declared.asked.Input.{Input}
use Rattle.clip_explain_lines.specs.declared.asked.Input.TheVariants.{Blank, Refused, Asks}

abbrev pub ask_view : Ask → asked.Ask
ask_view (Query told) = asked.query (string_bytes told)
ask_view (Text told) = asked.text (string_bytes told)
ask_view (Line told) = asked.line (string_bytes told)

abbrev pub input_view : Input → asked.Input
input_view Blank = asked.blank
input_view (Refused why) = asked.refused why
input_view (Asks ask) = asked.asks (ask_view ask)

-- a member's name and value
abbrev pub member_view : String Global × Value → List ℕ × Data
member_view m = (string_bytes m.0, view m.1)
