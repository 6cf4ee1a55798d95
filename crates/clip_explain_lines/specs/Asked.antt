-- What a line of the input asks to have explained.
use Rattle.std.specs.Prelude.{ℕ, List, [], ◌∷◌, codes, bytes_eq, if◌then◌else◌, Option, Some, None, option_and_then}
use Rattle.serde_json.specs.Data.{Data, string, Members, no_members, member}
use Rattle.serde_json.specs.Find.{as_object, as_str}
use Rattle.clip_protocol.specs.LineMeaning as said
use Rattle.clip_protocol.specs.Refusal.{word_of}
use Rattle.clip_protocol.specs.Request.{object_of}
use Rattle.clip_protocol.specs.Steps.Outline.{when_none_left}
use Rattle.clip_protocol.specs.Steps.Saying.{line_value}
use Rattle.clip_protocol.specs.declared.refusal.Refusal.{Refusal}
use Rattle.clip_protocol.specs.declared.refusal.Refusal.TheVariants.{Shape}

-- a query's text, a text that has words, or a line of the protocol
pub data Ask : Type 0 where
  query : List ℕ → Ask
  text : List ℕ → Ask
  line : List ℕ → Ask

-- what a member of this name asks for
abbrev pub ask_named : List ℕ → List ℕ → Option Ask
ask_named name told =
    if bytes_eq name (codes "query") then Some (query told)
    else (if bytes_eq name (codes "text") then Some (text told)
    else (if bytes_eq name (codes "line") then Some (line told) else None))

-- the first member's name and value, and the other members
abbrev pub first_of : Members → Option ((List ℕ × Data) × Members)
first_of no_members = None
first_of (member name d members) = Some ((name, d), members)

abbrev pub alone : (List ℕ × Data) × Members → Option (List ℕ × Data)
alone p = when_none_left p.0 p.1

-- the name and the value of an object's one member
abbrev pub only_of : Members → Option (List ℕ × Data)
only_of members = option_and_then alone (first_of members)

-- what a member asks for, where it is a text under one of the names
abbrev pub ask_told : List ℕ × Data → Option Ask
ask_told m = option_and_then (ask_named m.0) (as_str m.1)

-- what an object of one member asks for
abbrev pub ask_of : Data → Option Ask
ask_of d = option_and_then ask_told (option_and_then only_of (as_object d))

-- a line of the input: blank, refused, or one that asks for something
pub data Input : Type 0 where
  blank : Input
  refused : Refusal → Input
  asks : Ask → Input

abbrev pub shaped : Option Ask → Input
shaped None = refused Shape
shaped (Some ask) = asks ask

-- a line with this value
abbrev pub input_said : said.Line Data → Input
input_said said.blank = blank
input_said (said.refused why) = refused why
input_said (said.asks d) = shaped (ask_of d)

-- what a line is
abbrev pub input_of : List ℕ → Input
input_of bytes = input_said (line_value bytes)

-- why a line is refused, with a sentence
abbrev pub refused_data : Refusal → List ℕ → Data
refused_data why says = object_of ((codes "refused", string (word_of why)) ∷ (codes "says", string says) ∷ [])
