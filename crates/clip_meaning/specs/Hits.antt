-- Where in an article the leaves of a query stand: the places of the words that they name.
use Rattle.std.specs.Prelude.{ℕ, Bool, true, false, ◌&&◌, ◌||◌, ◌+◌, List, map, filter, drop, length, nat_lt, nat_le}
use Rattle.std.specs.Arc.{arc_str_bytes}
use Rattle.std.specs.FinMap as finite
use Rattle.std.specs.List.{list_any, starts_with, flat_map}
use Rattle.std.specs.Str.{bytes_eq}
use Rattle.clip_grammar.specs.Tree.{Tree, Clauses, none, clause}
use Rattle.clip_grammar.specs.declared.query.Occur.{Occur}
use Rattle.clip_grammar.specs.declared.query.Occur.TheVariants.{Must, Should, MustNot}
use Rattle.clip_meaning.specs.declared.hit.Hit.{Hit}
use Rattle.clip_meaning.specs.Article.{Fields}
use Rattle.clip_meaning.specs.Index.{numbered}
use Rattle.clip_meaning.specs.Meaning.{begins_with, is_between}

-- the name of a field, and a position among its words, counted from 0
abbrev pub HitValue : Type 0
HitValue = List ℕ × ℕ

-- a hit, whose field is its name's bytes
abbrev pub hit_value : Hit → HitValue
hit_value hit = (arc_str_bytes hit.field, hit.position)

-- the position is one of `count` from `start` on
abbrev pub is_within : (start count position : ℕ) → Bool
is_within start count position = nat_le start position && nat_lt position (start + count)

-- the phrase occurs in the words from `start` on, and the position is one of its words'
abbrev pub covers : List (List ℕ) → List (List ℕ) → (position start : ℕ) → Bool
covers words phrase position start =
    starts_with bytes_eq (drop start words) phrase && is_within start (length phrase) position

-- a clause asks for what its child names: every clause but a MustNot
abbrev pub asks : Occur → Bool
asks Must = true
asks Should = true
asks MustNot = false

abbrev mutual
  -- Some leaf of this field, below no MustNot clause, names the word, which stands beside its position among the
  -- field's words: a Term that it equals, a Prefix that it begins with, a Span that holds it, or a Phrase that covers
  -- it.
  pub is_named : Tree → (name : List ℕ) → (words : List (List ℕ)) → List ℕ × ℕ → Bool
  is_named (Tree.Term field word) name words w = bytes_eq field name && bytes_eq w.0 word
  is_named (Tree.Phrase field phrase) name words w =
      bytes_eq field name && list_any (λ start. covers words phrase w.1 start.1) (numbered 0 words)
  is_named (Tree.Prefix field front) name words w = bytes_eq field name && begins_with front w.0
  is_named (Tree.Span field low high) name words w = bytes_eq field name && is_between low high w.0
  is_named Tree.All name words w = false
  is_named (Tree.Group clauses) name words w = is_named_by clauses name words w

  -- some leaf of a clause that asks names the word, which stands beside its position
  pub is_named_by : Clauses → (name : List ℕ) → (words : List (List ℕ)) → List ℕ × ℕ → Bool
  is_named_by none name words w = false
  is_named_by (clause occur child others) name words w =
      (asks occur && is_named child name words w) || is_named_by others name words w

-- the hits in one field, of its name and its words, in the order of the words
abbrev pub hits_in : Tree → List ℕ × List (List ℕ) → List HitValue
hits_in tree field = map (λ w. (field.0, w.1)) (filter (is_named tree field.0 field.1) (numbered 0 field.1))

-- The hits of the query in the fields: by the bytes of the fields' names, then by position.
unfoldable pub hits : Tree → Fields → List HitValue
hits tree fields = flat_map (hits_in tree) (finite.entries fields)
