-- The members that tell of a query, in three parts.
use Rattle.std.specs.Prelude.{ℕ, List, [], ◌∷◌, ◌++◌, map, codes, decimal}
use Rattle.json.specs.Token.{Token, boolean, key, number}
use Rattle.json.specs.Token as token
use Rattle.serde_json.specs.Data.{string}
use Rattle.clip_grammar.specs.Tree.{tree_of}
use Rattle.clip_extract.specs.Keys.{key_of}
use Rattle.clip_explain.specs.Spelling.{spelling}
use Rattle.clip_explain.specs.declared.explaining.Explanation.{Explanation}
use Rattle.clip_remarks.specs.declared.remark.Remark.{Remark}
use Rattle.clip_protocol.specs.Request.{array_of}
use Rattle.clip_protocol.specs.Steps.Printing.{data_tokens}
use Rattle.clip_explain_lines.specs.Told.{key_data, remark_data}
use Rattle.clip_explain_lines.specs.TreeData.{tree_data, words_in}

abbrev pub first_tokens : Explanation → List Token
first_tokens told =
    key (codes "always") ∷ boolean told.always ∷ key (codes "keys")
    ∷ (data_tokens (array_of (map key_data (map key_of told.keys.items)))
    ++ key (codes "never") ∷ boolean told.never ∷ key (codes "nodes") ∷ number (decimal told.nodes) ∷ [])

abbrev pub middle_tokens : Explanation → List Remark → List ℕ → List Token
middle_tokens told remarks says =
    key (codes "reads") ∷ token.string (spelling (tree_of told.query)) ∷ key (codes "remarks")
    ∷ (data_tokens (array_of (map remark_data remarks)) ++ key (codes "says") ∷ token.string says ∷ [])

abbrev pub last_tokens_of : Explanation → List Token
last_tokens_of told =
    key (codes "tree") ∷ (data_tokens (tree_data (tree_of told.query))
    ++ key (codes "tried_on_all") ∷ boolean told.tried_on_all ∷ key (codes "weight") ∷ number (decimal told.weight)
    ∷ key (codes "words") ∷ data_tokens (array_of (map string (words_in (tree_of told.query)))))
