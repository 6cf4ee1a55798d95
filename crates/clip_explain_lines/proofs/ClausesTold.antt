-- The clauses of a group, told one after the other.
use Rattle.std.proofs.Common.{ℕ, List, map, flat_map, drop}
use Rattle.std.proofs.Common.{ap}
use Rattle.json.specs.Token.{Token}
use Rattle.json.specs.Tree.{items_tokens}
use Rattle.serde_json.specs.Data.{item, string}
use Rattle.serde_json.specs.Written.{items_outline}
use Rattle.clip_grammar.specs.declared.query.Occur.{Occur}
use Rattle.clip_grammar.specs.declared.query.Query.{Query}
use Rattle.clip_grammar.specs.Tree.{Clauses, clauses_of, tree_of}
use Rattle.clip_protocol.specs.Steps.Printing.{data_tokens}
use Rattle.clip_explain_lines.specs.TreeData.{clauses_data, words_in, words_in_all}

abbrev clauses : List (Occur × Query) → Clauses
clauses cs = clauses_of (map (λ c. (c.0, tree_of c.1)) cs)

-- ---- the tree

-- the tokens of the clauses from a place on, with the end of the array
abbrev pub tokens_from : ℕ → List (Occur × Query) → List Token
tokens_from i cs = items_tokens (items_outline (clauses_data (clauses (drop i cs))))

-- ---- the words

-- the tokens of words
abbrev pub word_tokens : List (List ℕ) → List Token
word_tokens words = flat_map data_tokens (map string words)

-- the tokens of the words of the clauses from a place on
abbrev pub words_from : ℕ → List (Occur × Query) → List Token
words_from i cs = word_tokens (words_in_all (clauses (drop i cs)))
