-- The clauses of a group, spelled one after the other.
use Rattle.std.proofs.Common.{ℕ, Bool, List, map, drop}
use Rattle.std.proofs.Common.{ap}
use Rattle.clip_grammar.specs.declared.query.Occur.{Occur}
use Rattle.clip_grammar.specs.declared.query.Query.{Query}
use Rattle.clip_grammar.specs.Tree.{Clauses, clauses_of, tree_of}
use Rattle.clip_explain.specs.Spelling.{clauses_spelling}

abbrev clauses : List (Occur × Query) → Clauses
clauses cs = clauses_of (map (λ c. (c.0, tree_of c.1)) cs)

-- the clauses from a place on
abbrev pub spelled_from : (first : Bool) → ℕ → List (Occur × Query) → List ℕ
spelled_from first i cs = clauses_spelling (clauses (drop i cs)) first
