-- Paths into a JSON value, and their texts.
use Rattle.std.specs.Prelude.{ℕ, List, [], ◌∷◌, ◌++◌, flat_map, Option, Some, option_and_then}
use Rattle.std.specs.Fmt.{decimal}
use Rattle.serde_json.specs.Data.{Data}
use Rattle.serde_json.specs.Find.{get, at}

-- to the member of this name of an object, or to the item at this place of an array, from 0
pub data Step : Type 0 where
  to_member : List ℕ → Step
  to_item : ℕ → Step

abbrev pub Path : Type 0
Path = List Step

-- where a step from a value leads
abbrev pub step_from : Step → Data → Option Data
step_from (to_member name) d = get name d
step_from (to_item place) d = at place d

-- where a path from a value leads
abbrev pub value_at : Path → Data → Option Data
value_at [] d = Some d
value_at (s ∷ path) d = option_and_then (value_at path) (step_from s d)

-- ---- the text of a path, as `articles[2].fields.lang`

abbrev pub step_text : Step → List ℕ
step_text (to_member name) = 46 ∷ name
step_text (to_item place) = 91 ∷ decimal place ++ 93 ∷ []

-- of the steps behind others
abbrev pub steps_text : Path → List ℕ
steps_text path = flat_map step_text path

-- a name that comes first has no dot before it
abbrev pub path_text : Path → List ℕ
path_text [] = []
path_text (to_member name ∷ path) = name ++ steps_text path
path_text (to_item place ∷ path) = steps_text (to_item place ∷ path)
