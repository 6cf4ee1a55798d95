-- Worked examples, computed from the definitions.
use Rattle.std.proofs.Common.{◌≡◌, ℕ, false, List, [], ◌∷◌, refl, codes, map, None, Some}
use lib.Utf8.{encode as encode_utf8}
use Rattle.clip_grammar.specs.Lexemes.{Lexeme, Lexes, Bare, Escape, Code, Word, Blank, Sign, Range, BareEnd}
use Rattle.clip_grammar.specs.Tokens as token
use Rattle.clip_grammar.specs.Tokens.{tokens_of, word_token, sign_token}
use Rattle.clip_grammar.specs.Shape as shape
use Rattle.clip_grammar.specs.Tree.{Clauses, none, clause}
use Rattle.clip_grammar.specs.declared.query.Occur.{Occur}
use Rattle.clip_grammar.specs.declared.query.Occur.TheVariants.{Must, Should, MustNot}

bare : List ℕ → Lexeme
bare cs = Word (map Bare cs)

row_prefix : Lexes (codes "\\u0041*") (Word (Code 48 48 52 49 ∷ Bare 42 ∷ []) ∷ [])
row_prefix = record { lexemes = refl; whole = refl }

row_prefix_token : tokens_of (Word (Code 48 48 52 49 ∷ Bare 42 ∷ []) ∷ []) ≡ token.Front (65 ∷ []) ∷ []
unfolding encode_utf8 word_token sign_token
row_prefix_token = refl

row_dash : Lexes (codes "tea- -a") (Word (map Bare (codes "tea-")) ∷ Blank 32 ∷ Sign 45 ∷ Word (Bare 97 ∷ []) ∷ [])
row_dash = record { lexemes = refl; whole = refl }

row_range : Lexes (codes "[* TO b}")
    (Range 91 [] (BareEnd (Bare 42 ∷ [])) (32 ∷ []) (32 ∷ []) (BareEnd (Bare 98 ∷ [])) [] 125 ∷ [])
row_range = record { lexemes = refl; whole = refl }

row_range_token : tokens_of (Range 91 [] (BareEnd (Bare 42 ∷ [])) (32 ∷ []) (32 ∷ []) (BareEnd (Bare 98 ∷ [])) [] 125
    ∷ []) ≡ token.Range token.Free (token.Without (98 ∷ [])) ∷ []
unfolding encode_utf8 word_token sign_token
row_range_token = refl

row_not : tokens_of (Word (map Bare (codes "NOT")) ∷ Word (Escape 78 ∷ map Bare (codes "OT")) ∷ [])
    ≡ token.Not ∷ token.Plain (codes "NOT") ∷ []
unfolding encode_utf8 word_token sign_token
row_not = refl

row_operators : tokens_of (Word (map Bare (codes "AND")) ∷ Word (map Bare (codes "||"))
    ∷ Word (Escape 65 ∷ map Bare (codes "ND")) ∷ Word (map Bare (codes "and")) ∷ Word (map Bare (codes "a&&b")) ∷ [])
    ≡ token.And ∷ token.Or ∷ token.Plain (codes "AND") ∷ token.Plain (codes "and") ∷ token.Other ∷ []
unfolding encode_utf8 word_token sign_token
row_operators = refl

-- how a clause with a sign counts
abbrev counts : shape.Sign → List ℕ → shape.WrittenClause
counts sign text = shape.item sign None (shape.Plain text)

abbrev occurs : Clauses → List Occur
occurs none = []
occurs (clause occur _ cs) = occur ∷ occurs cs

-- tea AND coffee OR milk
row_and_or : occurs (shape.clauses_in
    (shape.more (counts shape.Unsigned (codes "tea")) shape.And
    (shape.more (counts shape.Unsigned (codes "coffee")) shape.Or (shape.one (counts shape.Unsigned (codes "milk")))))
    false (codes "text")) ≡ Must ∷ Must ∷ Should ∷ []
row_and_or = refl

-- milk OR tea AND -coffee
row_and_minus : occurs (shape.clauses_in
    (shape.more (counts shape.Unsigned (codes "milk")) shape.Or
    (shape.more (counts shape.Unsigned (codes "tea")) shape.And (shape.one (counts shape.Minus (codes "coffee")))))
    false (codes "text")) ≡ Should ∷ Must ∷ MustNot ∷ []
row_and_minus = refl

-- title:(+tea -"green tea")
row_group : shape.tokens
    (shape.one (shape.item shape.Unsigned (Some (codes "title"))
    (shape.Parens (shape.more (shape.item shape.Plus None (shape.Plain (codes "tea"))) shape.Beside
    (shape.one (shape.item shape.Minus None (shape.Phrase (codes "green tea"))))))))
    ≡ token.Plain (codes "title") ∷ token.Colon ∷ token.Open ∷ token.Plus ∷ token.Plain (codes "tea") ∷ token.Minus
    ∷ token.Phrase (codes "green tea") ∷ token.Close ∷ []
row_group = refl
