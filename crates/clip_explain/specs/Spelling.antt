-- How a tree is spelled with all its signs and fields. A text is its bytes.
use Rattle.std.specs.Prelude.{ℕ, Bool, true, false, not, ◌&&◌, ◌||◌, List, [], ◌∷◌, ◌++◌, flat_map, encode_utf8_all}
use Rattle.std.specs.Prelude.{codes, if◌then◌else◌}
use Rattle.std.specs.Str.{chars, bytes_eq}
use Rattle.clip_grammar.specs.Characters.{is_start, is_one_of, quotable_char}
use Rattle.clip_grammar.specs.Tokens.{End}
use Rattle.clip_grammar.specs.Tree.{Tree, Clauses, none, clause}
use Rattle.clip_grammar.specs.declared.query.Occur.{Occur}
use Rattle.clip_grammar.specs.declared.query.Occur.TheVariants.{Must, Should, MustNot}

-- ---- texts

-- the character stands in a word as it is, wherever it stands there
abbrev pub plain_char : ℕ → Bool
plain_char c = is_start c && not (is_one_of "&|" c)

-- the character stands as it is between quotes, or in a word
abbrev pub stands : (quoted : Bool) → ℕ → Bool
stands quoted c = if quoted then quotable_char c else plain_char c

-- a character, after a backslash where it is none that stands as it is
abbrev pub escaped_char : (quoted : Bool) → ℕ → List ℕ
escaped_char quoted c = if stands quoted c then c ∷ [] else codes "\\" ++ c ∷ []

unfoldable pub escaped : (quoted : Bool) → List ℕ → List ℕ
escaped quoted text = encode_utf8_all (flat_map (escaped_char quoted) (chars text))

abbrev pub in_quotes : List ℕ → List ℕ
in_quotes spelled = codes "\"" ++ spelled ++ codes "\""

-- a text that would be read as an operator
abbrev pub is_operator : List ℕ → Bool
is_operator text = bytes_eq text (codes "AND") || bytes_eq text (codes "OR") || bytes_eq text (codes "NOT")

abbrev pub field_spelling : List ℕ → List ℕ
field_spelling field = (if is_operator field then codes "\\" else []) ++ escaped false field ++ codes ":"

-- nothing before the first of some, and a blank before each other
abbrev pub gap : (first : Bool) → List ℕ
gap first = if first then [] else codes " "

-- words one after the other
abbrev pub words_spelling : (first : Bool) → List (List ℕ) → List ℕ
words_spelling first [] = []
words_spelling first (word ∷ words) = gap first ++ escaped true word ++ words_spelling false words

-- ---- ranges

abbrev pub end_spelling : End → List ℕ
end_spelling End.Free = codes "*"
end_spelling (End.With text) = in_quotes (escaped true text)
end_spelling (End.Without text) = in_quotes (escaped true text)

abbrev pub low_bracket : End → List ℕ
low_bracket (End.Without text) = codes "{"
low_bracket _ = codes "["

abbrev pub high_bracket : End → List ℕ
high_bracket (End.Without text) = codes "}"
high_bracket _ = codes "]"

abbrev pub range_spelling : End → End → List ℕ
range_spelling low high = low_bracket low ++ end_spelling low ++ codes " TO " ++ end_spelling high ++ high_bracket high

-- ---- trees

abbrev pub sign_spelling : Occur → List ℕ
sign_spelling Must = codes "+"
sign_spelling Should = []
sign_spelling MustNot = codes "-"

abbrev mutual
  -- a tree, its clauses in parentheses where it is a group and not the outermost
  pub spelling_in : Tree → (outermost : Bool) → List ℕ
  spelling_in (Tree.Term field word) outermost = field_spelling field ++ escaped false word
  spelling_in (Tree.Phrase field words) outermost = field_spelling field ++ in_quotes (words_spelling true words)
  spelling_in (Tree.Prefix field front) outermost = field_spelling field ++ escaped false front ++ codes "*"
  spelling_in (Tree.Span field low high) outermost = field_spelling field ++ range_spelling low high
  spelling_in Tree.All outermost = codes "*:*"
  spelling_in (Tree.Group clauses) outermost =
      (if outermost then [] else codes "(") ++ clauses_spelling clauses true ++ (if outermost then [] else codes ")")

  -- clauses one after the other
  pub clauses_spelling : Clauses → (first : Bool) → List ℕ
  clauses_spelling none first = []
  clauses_spelling (clause occur child others) first =
      gap first ++ sign_spelling occur ++ spelling_in child false ++ clauses_spelling others false

-- the spelling of a whole query
abbrev pub spelling : Tree → List ℕ
spelling tree = spelling_in tree true
