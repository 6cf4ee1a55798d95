-- The keys that are extracted of a query: an article of which it holds has one of them. Lucene's term-filtered
-- presearcher extracts terms in this way.
use Rattle.std.specs.Prelude.{ℕ, Bool, true, false, min, nat_lt, List, [], ◌∷◌, ◌++◌, map, fold, length, Option, Some}
use Rattle.std.specs.Prelude.{None, unwrap_or, if◌then◌else◌}
use Rattle.std.specs.List.{list_all, list_any}
use Rattle.std.specs.Str.{chars}
use Rattle.clip_grammar.specs.Tree.{Tree, Clauses, none, clause}
use Rattle.clip_grammar.specs.declared.query.Occur.{Occur}
use Rattle.clip_grammar.specs.declared.query.Occur.TheVariants.{Must, Should, MustNot}
use Rattle.clip_extract.specs.Keys.{KeyValue, Any, Word, Front, in_order}
use Rattle.clip_extract.specs.Fronts.{key_front}

-- keys, and how heavy they are: the heavier, the fewer articles have them
pub record Extracted : Type 0 where
  pub keys : List KeyValue
  pub weight : ℕ

-- nothing that narrows the articles down
abbrev pub unnarrowed : Extracted
unnarrowed = record { keys = Any ∷ []; weight = 0 }

-- a word weighs as much as it has characters
abbrev pub word_extract : List ℕ → List ℕ → Extracted
word_extract field word = record { keys = Word field word ∷ []; weight = length (chars word) }

-- a front weighs as much as it has characters; nothing is narrowed by an empty one
abbrev pub front_extract : List ℕ → List ℕ → Extracted
front_extract field [] = unnarrowed
front_extract field (b ∷ bs) = record { keys = Front field (b ∷ bs) ∷ []; weight = length (chars (b ∷ bs)) }

-- the heavier of two, the first on a tie
abbrev pub heavier : Extracted → Extracted → Extracted
heavier a b = if nat_lt a.weight b.weight then b else a

-- all keys of two, and the lesser weight
abbrev pub together : Extracted → Extracted → Extracted
together a b = record { keys = a.keys ++ b.keys; weight = min a.weight b.weight }

-- the heaviest of a list, the first on a tie; `None` of an empty list
abbrev pub heaviest : List Extracted → Option Extracted
heaviest [] = None
heaviest (e ∷ es) = Some (fold heavier e es)

-- all keys of a list, and their least weight; `None` of an empty list
abbrev pub union : List Extracted → Option Extracted
union [] = None
union (e ∷ es) = Some (fold together e es)

abbrev pub musts : List (Occur × Extracted) → List Extracted
musts [] = []
musts ((Must, e) ∷ cs) = e ∷ musts cs
musts ((Should, e) ∷ cs) = musts cs
musts ((MustNot, e) ∷ cs) = musts cs

abbrev pub shoulds : List (Occur × Extracted) → List Extracted
shoulds [] = []
shoulds ((Must, e) ∷ cs) = shoulds cs
shoulds ((Should, e) ∷ cs) = e ∷ shoulds cs
shoulds ((MustNot, e) ∷ cs) = shoulds cs

-- of its Must children the heaviest; without one, all its Should children
unfoldable pub group_extract : List (Occur × Extracted) → Extracted
group_extract cs = unwrap_or (heaviest (musts cs)) (unwrap_or (union (shoulds cs)) unnarrowed)

abbrev mutual
  pub extract : Tree → Extracted
  extract (Tree.Term field word) = word_extract field word
  extract (Tree.Phrase field words) = unwrap_or (heaviest (map (word_extract field) words)) unnarrowed
  extract (Tree.Prefix field front) = front_extract field (key_front front)
  extract (Tree.Span field low high) = unnarrowed
  extract Tree.All = unnarrowed
  extract (Tree.Group clauses) = group_extract (extracts clauses)

  -- of each clause, how it counts and what is extracted of its child
  pub extracts : Clauses → List (Occur × Extracted)
  extracts none = []
  extracts (clause occur child others) = (occur, extract child) ∷ extracts others

-- the keys of a query, in order, each once
abbrev pub query_keys : Tree → List KeyValue
query_keys tree = in_order (extract tree).keys

abbrev pub query_weight : Tree → ℕ
query_weight tree = (extract tree).weight

-- ---- second keys

-- the list without its heaviest, which is the first that none behind it outweighs
abbrev pub without_heaviest : List Extracted → List Extracted
without_heaviest [] = []
without_heaviest (e ∷ es) = if list_any (λ f. nat_lt e.weight f.weight) es then e ∷ without_heaviest es else es

-- of a group's Must children without the heaviest, whose keys are the query's, the heaviest
abbrev pub second_found : Tree → Option Extracted
second_found (Tree.Group clauses) = heaviest (without_heaviest (musts (extracts clauses)))
second_found _ = None

abbrev pub is_word : KeyValue → Bool
is_word Any = false
is_word (Word field word) = true
is_word (Front field front) = false

-- the keys, if all of them are words
abbrev pub only_words : List KeyValue → List KeyValue
only_words keys = if list_all is_word keys then keys else []

abbrev pub second_extract : Tree → List KeyValue
second_extract tree = only_words (unwrap_or (second_found tree) unnarrowed).keys

-- the second keys of a query, in order, each once
abbrev pub second_keys : Tree → List KeyValue
second_keys tree = in_order (second_extract tree)
