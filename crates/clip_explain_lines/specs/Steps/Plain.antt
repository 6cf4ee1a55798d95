-- Members whose values are no lists and no objects.
use Rattle.std.specs.Prelude.{ℕ, List, ◌∷◌}
use Rattle.json.specs.Token.{Token, key}
use Rattle.serde_json.specs.Data.{Data, boolean, null, string}
use Rattle.clip_protocol.specs.Reply.{number_of}
use Rattle.clip_protocol.specs.Steps.Printing.{data_tokens}
use Rattle.clip_explain_lines.specs.declared.writing.Member.{Member}
use Rattle.clip_explain_lines.specs.declared.writing.Member.TheVariants.{Text, Number, Flag, Null}

-- the name and the value
abbrev pub member_of : Member → List ℕ × Data
member_of (Text name text) = (name.now, string text.now)
member_of (Number name n) = (name.now, number_of n)
member_of (Flag name b) = (name.now, boolean b)
member_of (Null name) = (name.now, null)

abbrev pub member_tokens : List ℕ × Data → List Token
member_tokens m = key m.0 ∷ data_tokens m.1
