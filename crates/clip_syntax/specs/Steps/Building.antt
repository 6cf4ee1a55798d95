-- How a query's tree is built, token by token.
use Rattle.std.specs.Prelude.{ℕ, Bool, true, false, List, [], ◌∷◌, ◌++◌, map, reverse, Option, Some, None, unwrap_or}
use Rattle.std.specs.Prelude.{codes}
use Rattle.std.specs.Option.{option_map}
use Rattle.std.specs.Arc.{arc_str_bytes}
use Rattle.std.specs.Vec.Iter.{into_iter_items}
use Rattle.clip_words.specs.Words.{fold_of}
use Rattle.clip_grammar.specs.Tokens as token
use Rattle.clip_grammar.specs.Tokens.{Token, End}
use Rattle.clip_grammar.specs.Steps.Parser.{begins_colon, begins_and}
use Rattle.clip_grammar.specs.Shape.{words_tree, fold_end, beside_and}
use Rattle.clip_grammar.specs.Tree.{Tree, clauses_of, tree_of}
use Rattle.clip_grammar.specs.declared.query.Occur.{Occur}
use Rattle.clip_grammar.specs.declared.query.Occur.TheVariants.{Must, Should, MustNot}
use Rattle.clip_grammar.specs.declared.query.Query.{Query}
use Rattle.clip_syntax.specs.Steps.Items.{words_of_items}
use Rattle.clip_syntax.specs.declared.build.OpenGroup.{OpenGroup}
use Rattle.clip_syntax.specs.declared.build.Builder.{Builder}

-- a group whose clauses are still read: the clauses before, the field where no nearer one is written, and what stands
-- before the next item
pub record Group : Type 0 where
  pub clauses : List (Occur × Tree)
  pub field : List ℕ
  pub occur : Occur
  pub nearer : Option (List ℕ)

-- the groups around, the innermost first, the group that is read, and the words of the items to come
pub record State : Type 0 where
  pub around : List Group
  pub group : Group
  pub words : List (List (List ℕ))

-- the group of these clauses, where nothing stands before the next item
abbrev pub fresh : List (Occur × Tree) → List ℕ → Group
fresh clauses field = record { clauses = clauses; field = field; occur = Should; nearer = None }

abbrev pub item_field : Group → List ℕ
item_field g = unwrap_or g.nearer g.field

-- the group with one clause more, before an AND or not
abbrev pub add : Group → (before_and : Bool) → Tree → Group
add g before_and tree = fresh (g.clauses ++ (beside_and before_and g.occur, tree) ∷ []) g.field

-- the group with a prefix more; the group with a range more
abbrev pub add_prefix : Group → (before_and : Bool) → (text : List ℕ) → Group
add_prefix g before_and text = add g before_and (Tree.Prefix (item_field g) (fold_of text))

abbrev pub add_span : Group → (before_and : Bool) → (low high : End) → Group
add_span g before_and low high = add g before_and (Tree.Span (item_field g) (fold_end low) (fold_end high))

abbrev pub with_occur : Occur → State → State
with_occur occur s = record s { group = record s.group { occur = occur } }

abbrev pub with_group : State → Group → State
with_group s group = record s { group = group }

-- what is read, with an item more that has the next words
abbrev pub add_words : State → (before_and : Bool) → List (List (List ℕ)) → State
add_words s before_and [] = s
add_words s before_and (words ∷ more) =
    record s { group = add s.group before_and (words_tree (item_field s.group) words); words = more }

abbrev pub open_group : State → State
open_group s = record s { around = s.group ∷ s.around; group = fresh [] (item_field s.group) }

abbrev pub close : State → (before_and : Bool) → List Group → State
close s before_and [] = s
close s before_and (outer ∷ around) =
    record s { around = around; group = add outer before_and (Tree.Group (clauses_of s.group.clauses)) }

-- What a token does. After an AND the next clause must hold, unless it has a sign of its own.
abbrev pub read : Token → (before_colon before_and : Bool) → State → State
read token.Plus _ _ s = with_occur Must s
read token.And _ _ s = with_occur Must s
read token.Minus _ _ s = with_occur MustNot s
read token.Bang _ _ s = with_occur MustNot s
read token.Not _ _ s = with_occur MustNot s
read (token.Plain field) true _ s = record s { group = record s.group { nearer = Some field } }
read (token.Plain _) false before_and s = add_words s before_and s.words
read (token.Phrase _) _ before_and s = add_words s before_and s.words
read (token.Front text) _ before_and s = with_group s (add_prefix s.group before_and text)
read (token.Range low high) _ before_and s = with_group s (add_span s.group before_and low high)
read token.Star true _ s = s
read token.Star false before_and s = with_group s (add s.group before_and Tree.All)
read token.Open _ _ s = open_group s
read token.Close _ before_and s = close s before_and s.around
read token.Or _ _ s = s
read token.Colon _ _ s = s
read token.Other _ _ s = s

unfoldable pub read_all : List Token → State → State
read_all [] s = s
read_all (t ∷ ts) s = read_all ts (read t (begins_colon ts) (begins_and ts) s)

-- what is read before the first token
abbrev pub start : List (List (List ℕ)) → State
start words = record { around = []; group = fresh [] (codes "text"); words = words }

-- ---- what the code holds

-- clauses, each query as its tree
abbrev pub clause_trees : List (Occur × Query) → List (Occur × Tree)
clause_trees = map (λ c. (c.0, tree_of c.1))

abbrev pub group_of : OpenGroup → Group
group_of g = record {
  clauses = clause_trees g.clauses.items;
  field = arc_str_bytes g.field;
  occur = g.occur;
  nearer = option_map arc_str_bytes g.nearer;
}

abbrev pub groups_of : List OpenGroup → List Group
groups_of gs = reverse (map group_of gs)

abbrev pub state_of : Builder → State
state_of b = record {
  around = groups_of b.around.items;
  group = group_of b.group;
  words = words_of_items (into_iter_items b.words);
}
