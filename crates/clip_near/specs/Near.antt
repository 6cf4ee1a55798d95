-- Two queries near each other: each stands somewhere in the words of one field, with at most so many words between. As
-- Lucene's span near query, where that number is the slop.
use Rattle.std.specs.Prelude.{ℕ, Bool, false, not, ◌+◌, ◌&&◌, ◌||◌, List, [], ◌∷◌, drop, length, nat_le}
use Rattle.std.specs.Prelude.{Option, Some, None, is_some, unwrap_or}
use Rattle.std.specs.List.{list_any, starts_with}
use Rattle.std.specs.Str.{bytes_eq}
use Rattle.clip_grammar.specs.Tree.{Tree, none, clause, bare}
use Rattle.clip_grammar.specs.declared.query.Occur.TheVariants.{Must}
use Rattle.clip_meaning.specs.Article.{Fields, words_in}
use Rattle.clip_meaning.specs.Index.{numbered}
use Rattle.clip_meaning.specs.Meaning.{begins_with, is_nonempty}

-- ---- where a query stands

-- the field in which a word, a phrase or a prefix is sought; what else may be asked has no place in a field
abbrev pub field_of : Tree → Option (List ℕ)
field_of (Tree.Term field _) = Some field
field_of (Tree.Phrase field _) = Some field
field_of (Tree.Prefix field _) = Some field
field_of _ = None

-- how many words it takes where it stands
abbrev pub width : Tree → ℕ
width (Tree.Phrase _ phrase) = length phrase
width _ = 1

-- it stands at the first of these words
abbrev pub stands : Tree → List (List ℕ) → Bool
stands (Tree.Term _ word) (w ∷ _) = bytes_eq w word
stands (Tree.Phrase _ phrase) words = is_nonempty phrase && starts_with bytes_eq words phrase
stands (Tree.Prefix _ front) (w ∷ _) = begins_with front w
stands _ _ = false

-- it stands in the words from this position on
abbrev pub stands_at : Tree → List (List ℕ) → (position : ℕ) → Bool
stands_at query words position = stands query (drop position words)

-- ---- near

-- from one end to a later start there are at most so many words
abbrev pub is_close : (between end start : ℕ) → Bool
is_close between end start = nat_le end start && nat_le start (end + between)

-- the first stands at i, and the second at j, behind the end of the first, with at most so many words between
abbrev pub stand_close : (between : ℕ) → (first second : Tree) → List (List ℕ) → (i j : ℕ) → Bool
stand_close between first second words i j =
    stands_at first words i && stands_at second words j && is_close between (i + width first) j

-- they stand so at some two positions of the words
abbrev pub is_followed : (between : ℕ) → (first second : Tree) → List (List ℕ) → Bool
is_followed between first second words =
    list_any (λ i. list_any (λ j. stand_close between first second words i.1 j.1) (numbered 0 words)) (numbered 0 words)

-- they stand so in this order or, where this is not asked for, in the other
abbrev pub stand_near : (between : ℕ) → (ordered : Bool) → (first second : Tree) → List (List ℕ) → Bool
stand_near between ordered first second words =
    is_followed between first second words || (not ordered && is_followed between second first words)

-- both are this one field
abbrev pub is_one_field : Option (List ℕ) → Option (List ℕ) → Bool
is_one_field (Some field) (Some other) = bytes_eq field other
is_one_field _ _ = false

-- two queries without groups around them ask in one field, and stand near in its words
abbrev pub are_near : (between : ℕ) → (ordered : Bool) → (first second : Tree) → Fields → Bool
are_near between ordered first second fields =
    is_one_field (field_of first) (field_of second)
    && stand_near between ordered first second (words_in fields (unwrap_or (field_of first) []))

-- Some place of the first query and some place of the second are in one field, apart, with at most `between` words
-- between them, and where `ordered`, that of the first is before.
unfoldable pub near_holds : (first second : Tree) → (between : ℕ) → (ordered : Bool) → Fields → Bool
near_holds first second between ordered fields = are_near between ordered (bare first) (bare second) fields

-- the query is a word, a phrase or a prefix
abbrev pub has_places : Tree → Bool
has_places query = is_some (field_of (bare query))

-- ---- the wider query

-- both have to hold, wherever they stand: `+first +second`
abbrev pub wider_of : (first second : Tree) → Tree
wider_of first second = Tree.Group (clause Must first (clause Must second none))
