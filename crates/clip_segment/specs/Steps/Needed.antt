-- What has to be added of a query so that all its keys are among the terms.
use Rattle.std.specs.Prelude.{Bool, true, false, List, ◌++◌, filter}
use Rattle.clip_grammar.specs.Tree.{Tree}
use Rattle.clip_extract.specs.Keys.{KeyValue, Any, Word, Front}
use Rattle.clip_extract.specs.Extraction.{extract, second_extract}
use Rattle.clip_plan.specs.Plan.{word_keys}

-- the key is no word
abbrev pub is_other : KeyValue → Bool
is_other Any = true
is_other (Word field word) = false
is_other (Front field front) = true

-- the keys that are no words
abbrev pub others : List KeyValue → List KeyValue
others keys = filter is_other keys

-- the words that a query asks for, and those of its keys that are no words
abbrev pub needed_of : Tree → List KeyValue
needed_of tree = others (extract tree).keys ++ others (second_extract tree) ++ word_keys tree
