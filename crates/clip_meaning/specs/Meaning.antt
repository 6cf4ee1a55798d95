-- When a query holds of an article: Lucene's boolean query with its default settings, exact phrase, prefix and term
-- range.
use Rattle.std.specs.Prelude.{ℕ, Bool, true, false, not, ◌&&◌, ◌||◌, ◌==◌, List, [], ◌∷◌}
use Rattle.std.specs.List.{list_any, list_all, starts_with}
use Rattle.std.specs.Str.{bytes_eq}
use Rattle.std.specs.Ordering.{is_lt, is_gt}
use Rattle.clip_words.specs.Order.{bytes_cmp}
use Rattle.clip_grammar.specs.Tokens.{End}
use Rattle.clip_grammar.specs.Tree.{Tree, Clauses, none, clause}
use Rattle.clip_grammar.specs.declared.query.Occur.{Occur}
use Rattle.clip_grammar.specs.declared.query.Occur.TheVariants.{Must, Should, MustNot}
use Rattle.clip_meaning.specs.Article.{Fields, words_in}

-- ---- words

-- the words of the phrase are somewhere next to each other, in order
abbrev pub has_run : List (List ℕ) → List (List ℕ) → Bool
has_run [] phrase = false
has_run (w ∷ ws) phrase = starts_with bytes_eq (w ∷ ws) phrase || has_run ws phrase

-- the list has a word
abbrev pub is_nonempty : List (List ℕ) → Bool
is_nonempty [] = false
is_nonempty (w ∷ ws) = true

-- the phrase has a word, and its words are somewhere next to each other, in order
abbrev pub has_phrase : List (List ℕ) → List (List ℕ) → Bool
has_phrase words phrase = is_nonempty phrase && has_run words phrase

-- the word begins with the prefix
abbrev pub begins_with : List ℕ → List ℕ → Bool
begins_with front word = starts_with (λ b c. b == c) word front

-- the word is not below the low end of a range
abbrev pub above : End → List ℕ → Bool
above End.Free word = true
above (End.With low) word = not (is_gt (bytes_cmp low word))
above (End.Without low) word = is_lt (bytes_cmp low word)

-- the word is not above the high end of a range
abbrev pub below : End → List ℕ → Bool
below End.Free word = true
below (End.With high) word = not (is_gt (bytes_cmp word high))
below (End.Without high) word = is_lt (bytes_cmp word high)

-- the word lies in the range
abbrev pub is_between : End → End → List ℕ → Bool
is_between low high word = above low word && below high word

-- ---- groups

-- a clause and whether its child holds: a Must child has to hold
abbrev pub meets_must : Occur × Bool → Bool
meets_must (Must, held) = held
meets_must _ = true

-- a clause and whether its child holds: a MustNot child may not hold
abbrev pub meets_must_not : Occur × Bool → Bool
meets_must_not (MustNot, held) = not held
meets_must_not _ = true

-- the clause is a Must clause
abbrev pub is_must : Occur × Bool → Bool
is_must (Must, _) = true
is_must _ = false

-- the clause is a Should clause, and its child holds
abbrev pub meets_should : Occur × Bool → Bool
meets_should (Should, held) = held
meets_should _ = false

-- Every Must child holds, no MustNot child holds and, where there is no Must child, at least one Should child holds.
unfoldable pub group_holds : List (Occur × Bool) → Bool
group_holds vs = list_all meets_must vs && list_all meets_must_not vs
    && (list_any is_must vs || list_any meets_should vs)

abbrev mutual
  -- the query holds of these fields
  pub holds : Tree → Fields → Bool
  holds (Tree.Term field word) fields = list_any (λ w. bytes_eq w word) (words_in fields field)
  holds (Tree.Phrase field words) fields = has_phrase (words_in fields field) words
  holds (Tree.Prefix field front) fields = list_any (begins_with front) (words_in fields field)
  holds (Tree.Span field low high) fields = list_any (is_between low high) (words_in fields field)
  holds Tree.All fields = true
  holds (Tree.Group clauses) fields = group_holds (verdicts clauses fields)

  -- how each clause counts, and whether its child holds
  pub verdicts : Clauses → Fields → List (Occur × Bool)
  verdicts none fields = []
  verdicts (clause occur child others) fields = (occur, holds child fields) ∷ verdicts others fields
