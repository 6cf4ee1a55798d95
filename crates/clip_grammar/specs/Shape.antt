-- The shape of a query: its clauses as they are written, the tokens that spell them, and their tree.
use Rattle.std.specs.Prelude.{ℕ, Bool, true, false, ◌||◌, List, [], ◌∷◌, ◌++◌, Option, Some, None, unwrap_or}
use Rattle.std.specs.Prelude.{if◌then◌else◌, codes}
use Rattle.clip_words.specs.Words.{fold_of, words_of}
use Rattle.clip_grammar.specs.Tokens as token
use Rattle.clip_grammar.specs.Tokens.{Token, End}
use Rattle.clip_grammar.specs.Tree.{Tree, Clauses, none, clause}
use Rattle.clip_grammar.specs.declared.query.Occur.{Occur}
use Rattle.clip_grammar.specs.declared.query.Occur.TheVariants.{Must, Should, MustNot}

pub data Sign : Type 0 where
  Unsigned : Sign
  Plus : Sign
  Minus : Sign
  Bang : Sign
  Not : Sign

-- what stands between two clauses
pub data Joint : Type 0 where
  Beside : Joint
  And : Joint
  Or : Joint

mutual
  -- the clauses of a query as they are written, one or more
  pub data Written : Type 0 where
    one : WrittenClause → Written
    more : WrittenClause → Joint → Written → Written

  -- a clause as it is written: a sign or none, a field or none, and an item; `*:*` takes no field
  pub data WrittenClause : Type 0 where
    item : Sign → Option (List ℕ) → Item → WrittenClause
    everything : Sign → WrittenClause

  pub data Item : Type 0 where
    Plain : (text : List ℕ) → Item
    Front : (text : List ℕ) → Item
    Phrase : (text : List ℕ) → Item
    Range : (low high : End) → Item
    Parens : Written → Item

abbrev pub sign_tokens : Sign → List Token
sign_tokens Unsigned = []
sign_tokens Plus = token.Plus ∷ []
sign_tokens Minus = token.Minus ∷ []
sign_tokens Bang = token.Bang ∷ []
sign_tokens Not = token.Not ∷ []

abbrev pub field_tokens : Option (List ℕ) → List Token
field_tokens None = []
field_tokens (Some field) = token.Plain field ∷ token.Colon ∷ []

abbrev pub joint_tokens : Joint → List Token
joint_tokens Beside = []
joint_tokens And = token.And ∷ []
joint_tokens Or = token.Or ∷ []

abbrev mutual
  -- how the clauses are written
  pub tokens : Written → List Token
  tokens (one c) = clause_tokens c
  tokens (more c joint cs) = clause_tokens c ++ (joint_tokens joint ++ tokens cs)

  pub clause_tokens : WrittenClause → List Token
  clause_tokens (item sign field i) = sign_tokens sign ++ field_tokens field ++ item_tokens i
  clause_tokens (everything sign) = sign_tokens sign ++ token.Star ∷ token.Colon ∷ token.Star ∷ []

  pub item_tokens : Item → List Token
  item_tokens (Plain text) = token.Plain text ∷ []
  item_tokens (Front text) = token.Front text ∷ []
  item_tokens (Phrase text) = token.Phrase text ∷ []
  item_tokens (Range low high) = token.Range low high ∷ []
  item_tokens (Parens cs) = token.Open ∷ tokens cs ++ token.Close ∷ []

abbrev pub occur_of : Sign → Occur
occur_of Unsigned = Should
occur_of Plus = Must
occur_of Minus = MustNot
occur_of Bang = MustNot
occur_of Not = MustNot

abbrev pub is_and : Joint → Bool
is_and And = true
is_and _ = false

-- A clause that stands beside an AND must hold, unless its own sign says that it must not.
abbrev pub beside_and : Bool → Occur → Occur
beside_and joined Should = if joined then Must else Should
beside_and joined occur = occur

-- one word is a term, several are a phrase
abbrev pub words_tree : List ℕ → List (List ℕ) → Tree
words_tree field (word ∷ []) = Tree.Term field word
words_tree field words = Tree.Phrase field words

abbrev pub fold_end : End → End
fold_end End.Free = End.Free
fold_end (End.With text) = End.With (fold_of text)
fold_end (End.Without text) = End.Without (fold_of text)

abbrev mutual
  -- the clauses of a group, the first of them after an AND or not, in a field where no nearer one is written
  pub clauses_in : Written → (after_and : Bool) → List ℕ → Clauses
  clauses_in (one c) after_and field = clause (beside_and after_and (clause_occur c)) (clause_tree c field) none
  clauses_in (more c joint cs) after_and field =
      clause (beside_and (after_and || is_and joint) (clause_occur c)) (clause_tree c field)
      (clauses_in cs (is_and joint) field)

  pub clause_tree : WrittenClause → List ℕ → Tree
  clause_tree (item _ nearer i) field = item_tree i (unwrap_or nearer field)
  clause_tree (everything _) field = Tree.All

  pub item_tree : Item → List ℕ → Tree
  item_tree (Plain text) field = words_tree field (words_of text)
  item_tree (Front text) field = Tree.Prefix field (fold_of text)
  item_tree (Phrase text) field = words_tree field (words_of text)
  item_tree (Range low high) field = Tree.Span field (fold_end low) (fold_end high)
  item_tree (Parens cs) field = Tree.Group (clauses_in cs false field)

  -- how a clause counts by its own sign
  pub clause_occur : WrittenClause → Occur
  clause_occur (item sign _ _) = occur_of sign
  clause_occur (everything sign) = occur_of sign

-- the tree of a text's clauses, in the field `text` where none is written
abbrev pub written_tree : Written → Tree
written_tree cs = Tree.Group (clauses_in cs false (codes "text"))

abbrev pub is_empty : List (List ℕ) → Bool
is_empty [] = true
is_empty _ = false

abbrev mutual
  -- some item has no words
  pub lacks_words : Written → Bool
  lacks_words (one c) = clause_lacks_words c
  lacks_words (more c _ cs) = clause_lacks_words c || lacks_words cs

  pub clause_lacks_words : WrittenClause → Bool
  clause_lacks_words (item _ _ i) = item_lacks_words i
  clause_lacks_words (everything _) = false

  pub item_lacks_words : Item → Bool
  item_lacks_words (Plain text) = is_empty (words_of text)
  item_lacks_words (Phrase text) = is_empty (words_of text)
  item_lacks_words (Parens cs) = lacks_words cs
  item_lacks_words _ = false
