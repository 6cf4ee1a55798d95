-- Words that are still to be added as keys.
use Rattle.std.proofs.Common.{ℕ, List, map, Global}
use Rattle.std.specs.Arc.{arc_str_bytes}
use Rattle.std.specs.declared.sync.ArcStr.{ArcStr}
use Rattle.clip_grammar.specs.declared.query.Occur.{Occur}
use Rattle.clip_grammar.specs.declared.query.Query.{Query}
use Rattle.clip_grammar.specs.Tree.{clauses_of, tree_of}
use Rattle.clip_extract.specs.Keys.{KeyValue, Word}
use Rattle.clip_plan.specs.Plan.{clause_word_keys}

-- those of clauses
abbrev pub clauses_words : List (Occur × Query) → List KeyValue
clauses_words cs = clause_word_keys (clauses_of (map (λ c. (c.0, tree_of c.1)) cs))

-- those of a phrase
abbrev pub phrase_words : List ℕ → List (ArcStr Global) → List KeyValue
phrase_words field words = map (Word field) (map arc_str_bytes words)
