-- Worked examples, computed from the definitions.
use Rattle.std.proofs.Common.{◌≡◌, ℕ, Bool, true, false, List, [], ◌∷◌, refl, codes}
use Rattle.clip_grammar.specs.Tree.{Tree, none, clause, bare}
use Rattle.clip_grammar.specs.declared.query.Occur.TheVariants.{Must, Should, MustNot}
use Rattle.clip_meaning.specs.Article.{Fields}
use Rattle.clip_near.specs.Near.{stand_near, near_holds, has_places}

abbrev word : List ℕ → Tree
word text = Tree.Term (codes "text") text

abbrev phrase : List ℕ → List ℕ → Tree
phrase first second = Tree.Phrase (codes "text") (first ∷ second ∷ [])

abbrev office : List (List ℕ)
office = codes "the" ∷ codes "press" ∷ codes "office" ∷ codes "of" ∷ codes "the" ∷ codes "tea" ∷ codes "board" ∷ []

abbrev in_order : ℕ → Tree → Tree → Bool
in_order between first second = stand_near between true first second office

abbrev in_any_order : ℕ → Tree → Tree → Bool
in_any_order between first second = stand_near between false first second office

-- next to each other, and in the other order
row_next : in_order 0 (word (codes "press")) (word (codes "office")) ≡ true
row_next = refl

row_turned : in_order 9 (word (codes "office")) (word (codes "press")) ≡ false
row_turned = refl

row_any_order : in_any_order 0 (word (codes "office")) (word (codes "press")) ≡ true
row_any_order = refl

-- office, of and the are between press and tea
row_three : in_order 3 (word (codes "press")) (word (codes "tea")) ≡ true
row_three = refl

row_two : in_any_order 2 (word (codes "press")) (word (codes "tea")) ≡ false
row_two = refl

-- a phrase is measured from its end, and to its start
row_from_phrase : in_order 2 (phrase (codes "press") (codes "office")) (word (codes "tea")) ≡ true
row_from_phrase = refl

row_to_phrase : in_order 2 (word (codes "office")) (phrase (codes "tea") (codes "board")) ≡ true
row_to_phrase = refl

row_too_far : in_order 1 (phrase (codes "press") (codes "office")) (phrase (codes "tea") (codes "board")) ≡ false
row_too_far = refl

-- the second of two places is near
row_second_place : in_order 0 (word (codes "the")) (Tree.Prefix (codes "text") (codes "te")) ≡ true
row_second_place = refl

-- places that have a word in common, or are one
row_overlap : in_any_order 9 (phrase (codes "press") (codes "office")) (phrase (codes "office") (codes "of")) ≡ false
row_overlap = refl

row_itself : in_any_order 9 (word (codes "press")) (word (codes "press")) ≡ false
row_itself = refl

-- a word that stands twice is near itself
row_twice : in_order 3 (word (codes "the")) (word (codes "the")) ≡ true
row_twice = refl

-- two fields, whatever is in them
row_fields : (fields : Fields)
    → near_holds (word (codes "tea")) (Tree.Term (codes "title") (codes "board")) 9 false fields ≡ false
unfolding near_holds
row_fields fields = refl

-- parentheses around a word, a word that is excluded, and two words
row_groups : bare (Tree.Group (clause Must (Tree.Group (clause Should (word (codes "tea")) none)) none))
    ≡ word (codes "tea")
row_groups = refl

row_excluded : has_places (Tree.Group (clause MustNot (word (codes "tea")) none)) ≡ false
row_excluded = refl

row_several : has_places (Tree.Group (clause Must (word (codes "tea")) (clause Must (word (codes "board")) none)))
    ≡ false
row_several = refl
