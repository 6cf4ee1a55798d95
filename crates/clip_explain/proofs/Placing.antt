-- The first lexeme that passes a test, and where it can be.
use Rattle.std.proofs.Common.{◌≡◌, ℕ, ◌+◌, ◌≤◌, inl, inr, ◌&&◌, List, [], ◌∷◌, ◌++◌, map, length}
use Rattle.std.proofs.Common.{encode_utf8_all, refl, sym, ap, subst, ◌∙◌, arith, flat_map, append-nil}
use Rattle.std.specs.Str.{chars, IsUtf8}
use Rattle.std.proofs.lemmas.Str.{encodes-chars}
use Rattle.clip_grammar.specs.Lexemes as grammar
use Rattle.clip_grammar.specs.Lexemes.{Blank, Quoted, Range, Foreign}
use Rattle.clip_grammar.specs.Tokens as token
use Rattle.clip_grammar.specs.Tokens.{Token, tokens_of_lexeme}
use Rattle.clip_grammar.specs.Reading.{Says, begins_colon_star}
use Rattle.clip_grammar.specs.Steps.LeftOut.{is_colon}
use Rattle.clip_explain.specs.Lexemes.{Placed, IsCut, byte_len, placed_from, placed_of}
use Rattle.clip_explain.proofs.Lexing.{bytes_more, at_place}
use Rattle.clip_explain.specs.Places.{Test, FirstOf, FirstIn, tokens_in}
use Rattle.clip_explain.specs.Steps.Searching.{IsSearching, ends_star}
use Rattle.clip_explain.specs.declared.cutting.Lexeme.{Lexeme}

-- ---- a search

pub search_start : (test : Test) (known : List Token → Type 0) (lexemes : List Placed) (end : ℕ) → known []
    → IsSearching test known lexemes lexemes end
search_start test known lexemes end knows = record { earlier = []; knows = knows; goes_on = λ at h. h }

-- one lexeme doesn't pass
pub search_more : (test : Test) (known knows_then : List Token → Type 0) (lexemes rest later : List Placed)
    (l : Placed) (end : ℕ) (s : IsSearching test known lexemes rest end) → rest ≡ l ∷ later
    → ¬ (test s.earlier l.token (tokens_in later)) → knows_then (l.token ∷ s.earlier)
    → IsSearching test knows_then lexemes later end
search_more test known knows_then lexemes rest later l end s parts fails knows = record {
  earlier = l.token ∷ s.earlier;
  knows = knows;
  goes_on = λ at h. s.goes_on at (subst (λ ls. FirstOf test s.earlier ls end at) (sym parts) (inr (fails, h)));
}

-- one passes
pub search_here : (test : Test) (known : List Token → Type 0) (lexemes rest later : List Placed) (l : Placed) (end : ℕ)
    (s : IsSearching test known lexemes rest end) → rest ≡ l ∷ later → test s.earlier l.token (tokens_in later)
    → FirstOf test [] lexemes end l.start
search_here test known lexemes rest later l end s parts passes =
    s.goes_on l.start (subst (λ ls. FirstOf test s.earlier ls end l.start) (sym parts) (inl (passes, refl)))

-- none is left
pub search_end : (test : Test) (known : List Token → Type 0) (lexemes : List Placed) (rest : List Lexeme) (end : ℕ)
    → IsSearching test known lexemes (map placed_of rest) end → length rest ≡ 0 → FirstOf test [] lexemes end end
search_end test known lexemes [] end s none = s.goes_on end refl
search_end test known lexemes (l ∷ rest) end s none = absurd (omega arith)

-- a colon after a star
pub colon_after_star : (t : Token) (earlier : List Token)
    → (is_colon t && ends_star earlier) ≡ begins_colon_star (t ∷ earlier)
colon_after_star token.Colon [] = refl
colon_after_star token.Colon (token.Star ∷ earlier) = refl
colon_after_star token.Colon (_ ∷ earlier) = refl
colon_after_star _ earlier = refl

-- ---- where it can be

-- the tokens of a lexeme, and then others
tokens_within : (test : Test) (us : List Token) (start past end at : ℕ) (rest : List Placed) → start ≤ end
    → ((earlier : List Token) → FirstOf test earlier rest end at → at ≤ end) → (earlier : List Token)
    → FirstOf test earlier (map (at_place start past) us ++ rest) end at → at ≤ end
tokens_within test [] start past end at rest fits more earlier first = more earlier first
tokens_within test (u ∷ us) start past end at rest fits more earlier (inl passes) = omega (arith, passes.1)
tokens_within test (u ∷ us) start past end at rest fits more earlier (inr fails) =
    tokens_within test us start past end at rest fits more (u ∷ earlier) fails.1

-- the first of some lexemes begins within what they take, or it's the end
first_within : (test : Test) (ls : List grammar.Lexeme) (start end at : ℕ)
    → start + length (encode_utf8_all (flat_map grammar.spell ls)) ≤ end → (earlier : List Token)
    → FirstOf test earlier (placed_from start ls) end at → at ≤ end
first_within test [] start end at fits earlier first = omega (arith, first)
first_within test (l ∷ ls) start end at fits earlier first =
    let parts = bytes_more (grammar.spell l) (flat_map grammar.spell ls) in
    let later : (start + byte_len l) + length (encode_utf8_all (flat_map grammar.spell ls)) ≤ end =
    omega (arith, parts) in
    tokens_within test (tokens_of_lexeme l) start (start + byte_len l) end at (placed_from (start + byte_len l) ls)
    (omega arith) (first_within test ls (start + byte_len l) end at later) earlier first

-- a text that says tokens is cut to its end
cut_whole : (text : List ℕ) (ts : List Token) (placed : List Placed) (end : ℕ) → IsUtf8 text → Says text ts
    → IsCut text placed end → end ≡ length text
cut_whole text ts placed end utf8 says cut =
    let reached = cut.cut.furthest (chars text) [] says.lexemes (append-nil (chars text)) says.lexes in
    let front = cut.cut.front in
    let rest = cut.cut.rest in
    let whole = ap (λ x. length (encode_utf8_all x)) cut.cut.parts in
    omega (arith, ap length (encodes-chars text utf8), bytes_more front rest, whole, cut.cut.place)

pub first_found : (test : Test) (text : List ℕ) (ts : List Token) (placed : List Placed) (end at : ℕ) → IsUtf8 text
    → Says text ts → IsCut text placed end → FirstOf test [] placed end at
    → FirstIn test text at × (at ≤ length text)
first_found test text ts placed end at utf8 says cut first =
    let whole = cut_whole text ts placed end utf8 says cut in
    let found : FirstIn test text at = record {
      lexemes = placed;
      cut = subst (λ n. IsCut text placed n) whole cut;
      first = subst (λ n. FirstOf test [] placed n at) whole first;
    } in
    let ls = cut.cut.lexemes in
    let spelled = ap (λ x. length (encode_utf8_all x)) cut.cut.lexes.whole in
    let fits : 0 + length (encode_utf8_all (flat_map grammar.spell ls)) ≤ end = omega (arith, spelled, cut.cut.place) in
    let within : at ≤ end =
    first_within test ls 0 end at fits [] (subst (λ ps. FirstOf test [] ps end at) cut.says first) in
    (found, omega arith)

-- the same of the lexemes of the code
pub first_of_slice : (test : Test) (text : List ℕ) (ts : List Token) (items slice : List Lexeme) (end at : ℕ)
    → slice ≡ items → IsUtf8 text → Says text ts → IsCut text (map placed_of items) end
    → FirstOf test [] (map placed_of slice) end at → FirstIn test text at × (at ≤ length text)
first_of_slice test text ts items slice end at same utf8 says cut first =
    first_found test text ts (map placed_of items) end at utf8 says cut
    (subst (λ x. FirstOf test [] (map placed_of x) end at) same first)

-- ---- words

-- there are no words, or there are some
pub no_words : {A : Type 0} (f : A → List ℕ) (items : List A) (words : List (List ℕ)) → map f items ≡ words
    → length items ≡ 0 → words ≡ []
no_words f [] words e none = sym e
no_words f (x ∷ items) words e none = absurd (omega arith)

pub some_words : {A : Type 0} (f : A → List ℕ) (items : List A) (words : List (List ℕ)) → map f items ≡ words
    → words ≡ [] → length items ≡ 0
some_words f [] words e none = refl
some_words f (x ∷ items) words e none = let bad : f x ∷ map f items ≡ [] = e ∙ none in cc
