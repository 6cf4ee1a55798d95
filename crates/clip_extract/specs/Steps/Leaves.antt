-- What is extracted of a query that is no group, and how its keys are added.
use Rattle.std.specs.Prelude.{◌≡◌, ℕ, List, [], ◌∷◌, ◌++◌, map}
use Rattle.std.specs.Arc.{arc_str_bytes}
use Rattle.std.specs.declared.vec.Vec.{Vec}
use Rattle.std.specs.declared.alloc.Global.{Global}
use Rattle.clip_grammar.specs.declared.query.Occur.{Occur}
use Rattle.clip_grammar.specs.declared.query.Query.{Query}
use Rattle.clip_grammar.specs.declared.query.Query.TheVariants.{Group}
use Rattle.clip_extract.specs.declared.key.Key.{Key}
use Rattle.clip_extract.specs.declared.extraction.Leaf.{Leaf}
use Rattle.clip_extract.specs.declared.extraction.Leaf.TheVariants.{Any, Word, Front}
use Rattle.clip_extract.specs.Keys as key
use Rattle.clip_extract.specs.Keys.{key_of}
use Rattle.clip_extract.specs.Fronts.{key_front}
use Rattle.clip_extract.specs.Extraction.{Extracted, unnarrowed, front_extract}

-- the query is no group
abbrev pub IsNoGroup : Query → Type 0
IsNoGroup query = (clauses : Vec (Occur × Query) Global) → query ≡ Group clauses → ⊥

-- what is extracted of a word that was found with its weight
abbrev pub word_found : (field word : List ℕ) → ℕ → Extracted
word_found field word weight = record { keys = key.Word field word ∷ []; weight = weight }

-- what is extracted of a query that is no group, by what it is found by
abbrev pub leaf_found : Leaf → Extracted
leaf_found Any = unnarrowed
leaf_found (Word field word weight) = word_found (arc_str_bytes field.now) (arc_str_bytes word.now) weight
leaf_found (Front field front) = front_extract (arc_str_bytes field.now) (key_front (arc_str_bytes front.now))

-- the new keys are the old ones and, after them, those that are extracted
abbrev pub Adds : Extracted → (old new : List Key) → Type 0
Adds extracted old new = map key_of new ≡ map key_of old ++ extracted.keys
