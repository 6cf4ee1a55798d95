-- Queries that hold of no article, and queries that hold of every one, as far as their trees tell.
use Rattle.std.specs.Prelude.{◌≡◌, ℕ, Bool, true, false, not, ◌&&◌, ◌||◌, nat_lt, List, [], ◌∷◌, String}
use Rattle.std.specs.Global.{Global}
use Rattle.std.specs.List.{list_any}
use Rattle.std.specs.Ordering.{is_lt, is_gt}
use Rattle.clip_words.specs.Order.{bytes_cmp}
use Rattle.clip_grammar.specs.Characters.{is_one_of}
use Rattle.clip_grammar.specs.Tokens.{End}
use Rattle.clip_grammar.specs.Tree.{Tree, Clauses, none, clause}
use Rattle.clip_grammar.specs.declared.query.Occur.{Occur}
use Rattle.clip_grammar.specs.declared.query.Occur.TheVariants.{Must, Should, MustNot}
use Rattle.clip_meaning.specs.Article.{is_field_name, may_be, pairs_of, read_fields}
use Rattle.clip_meaning.specs.Meaning.{holds, group_holds, is_nonempty}

-- The low end is past the high one, so that no word lies between them.
abbrev pub is_void : End → End → Bool
is_void (End.With low) (End.With high) = is_gt (bytes_cmp low high)
is_void (End.With low) (End.Without high) = not (is_lt (bytes_cmp low high))
is_void (End.Without low) (End.With high) = not (is_lt (bytes_cmp low high))
is_void (End.Without low) (End.Without high) = not (is_lt (bytes_cmp low high))
is_void _ _ = false

-- an ASCII sign that ends a word: none stands behind the first byte of one, and what one begins with is no such sign
-- with an ASCII character behind it
unfoldable pub is_parting : ℕ → Bool
is_parting = is_one_of "!#$%&()*+-/<=>?@[\\]^`{|}~"

-- such a sign stands behind the first byte, as in `e-mobil`
abbrev pub is_parted : List ℕ → Bool
is_parted [] = false
is_parted (first ∷ others) = list_any is_parting others

-- such a sign stands first, and an ASCII character behind it, as in `#metoo`
abbrev pub is_led : List ℕ → Bool
is_led (first ∷ second ∷ others) = is_parting first && nat_lt second 128
is_led _ = false

-- no word begins so
abbrev pub begins_no_word : List ℕ → Bool
begins_no_word front = is_parted front || is_led front

-- what is best for a group is worst for its MustNot clauses
abbrev pub for_child : Occur → (best : Bool) → Bool
for_child Must best = best
for_child Should best = best
for_child MustNot best = not best

abbrev mutual
  -- The query holds in the best case, or in the worst. In the best case each leaf holds that some article may meet, in
  -- the worst none; below a MustNot it is the other way round.
  pub holds_in : Tree → (best : Bool) → Bool
  holds_in (Tree.Term field word) best = best && is_field_name field
  holds_in (Tree.Phrase field words) best = best && is_field_name field && is_nonempty words
  holds_in (Tree.Prefix field front) best = best && is_field_name field && not (begins_no_word front)
  holds_in (Tree.Span field low high) best = best && is_field_name field && not (is_void low high)
  holds_in Tree.All best = true
  holds_in (Tree.Group clauses) best = group_holds (verdicts_in clauses best)

  -- how each clause counts, and whether its child holds
  pub verdicts_in : Clauses → (best : Bool) → List (Occur × Bool)
  verdicts_in none best = []
  verdicts_in (clause occur child others) best =
      (occur, holds_in child (for_child occur best)) ∷ verdicts_in others best

-- it doesn't hold even in the best case
abbrev pub is_never : Tree → Bool
is_never tree = not (holds_in tree true)

-- it holds even in the worst case
abbrev pub is_always : Tree → Bool
is_always tree = holds_in tree false

-- a query that is never holds of no article
abbrev pub NeverHolds : Type 0
NeverHolds = (tree : Tree) (id : List ℕ) (fields : List (String Global × String Global))
    → may_be id (pairs_of fields) ≡ true → is_never tree ≡ true → holds tree (read_fields (pairs_of fields)) ≡ false

-- a query that is always holds of every article
abbrev pub AlwaysHolds : Type 0
AlwaysHolds = (tree : Tree) (id : List ℕ) (fields : List (String Global × String Global))
    → may_be id (pairs_of fields) ≡ true → is_always tree ≡ true → holds tree (read_fields (pairs_of fields)) ≡ true
