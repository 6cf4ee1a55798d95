-- Where the lexemes of a text stand: at places at which it may be cut, one behind the other.
use Rattle.std.proofs.Common.{◌≡◌, ℕ, ◌+◌, ◌≤◌, true, List, [], ◌∷◌, ◌++◌, length, flat_map}
use Rattle.std.proofs.Common.{encode_utf8_all, refl, sym, ap, subst, ◌∙◌, arith, append_assoc}
use Rattle.std.specs.Str.{chars, IsUtf8, IsCharBoundary, all_scalars}
use Rattle.std.proofs.lemmas.Bool.{and_parts}
use Rattle.std.proofs.lemmas.Str.{encodes-append, encodes-chars, scalars-chars}
use Rattle.std.proofs.lemmas.Str.{IsCharBoundary-at_seam}
use Rattle.clip_grammar.specs.Lexemes.{Lexeme, Blank, spell}
use Rattle.clip_explain.specs.Lexemes.{Placed, IsCut, StandApart, byte_len, placed_from}
use Rattle.clip_explain.proofs.Lexing.{bytes_more}

later_scalars : (head tail : List ℕ) → all_scalars (head ++ tail) ≡ true → all_scalars tail ≡ true
later_scalars [] tail all = all
later_scalars (c ∷ head) tail all = later_scalars head tail (and_parts _ (all_scalars (head ++ tail)) all).1

-- a text may be cut between two of its characters
boundary : (text head tail : List ℕ) → IsUtf8 text → head ++ tail ≡ chars text
    → IsCharBoundary text (length (encode_utf8_all head))
boundary text head tail utf8 parts =
    let scalars : all_scalars tail ≡ true =
    later_scalars head tail (ap all_scalars parts ∙ scalars-chars text utf8) in
    IsCharBoundary-at_seam text (encode_utf8_all head) (encode_utf8_all tail)
    (sym (encodes-chars text utf8) ∙ ap encode_utf8_all (sym parts) ∙ encodes-append head tail) (tail, (scalars, refl))

-- what a lexeme adds to those before it
more_parts : (text head : List ℕ) (l : Lexeme) (ls : List Lexeme) (rest : List ℕ)
    → head ++ (flat_map spell (l ∷ ls) ++ rest) ≡ chars text
    → (head ++ spell l) ++ (flat_map spell ls ++ rest) ≡ chars text
more_parts text head l ls rest parts =
    append_assoc head (spell l) (flat_map spell ls ++ rest)
    ∙ ap (λ x. head ++ x) (sym (append_assoc (spell l) (flat_map spell ls) rest)) ∙ parts

more_place : (head : List ℕ) (l : Lexeme) (start : ℕ) → start ≡ length (encode_utf8_all head)
    → start + byte_len l ≡ length (encode_utf8_all (head ++ spell l))
more_place head l start place = omega (arith, bytes_more head (spell l))

stand : (text : List ℕ) → IsUtf8 text → (ls : List Lexeme) (head rest : List ℕ)
    → head ++ (flat_map spell ls ++ rest) ≡ chars text → (from start : ℕ) → from ≤ start
    → start ≡ length (encode_utf8_all head) → StandApart text from (placed_from start ls)
stand text utf8 [] head rest parts from start ordered place = tt
stand text utf8 (Blank c ∷ ls) head rest parts from start ordered place =
    stand text utf8 ls (head ++ spell (Blank c)) rest (more_parts text head (Blank c) ls rest parts) from
    (start + byte_len (Blank c)) (omega arith) (more_place head (Blank c) start place)
stand text utf8 (l ∷ ls) head rest parts from start ordered place =
    let parts' = more_parts text head l ls rest parts in
    let end = start + byte_len l in
    let place' : end ≡ length (encode_utf8_all (head ++ spell l)) = more_place head l start place in
    let first = boundary text head (flat_map spell (l ∷ ls) ++ rest) utf8 parts in
    let last = boundary text (head ++ spell l) (flat_map spell ls ++ rest) utf8 parts' in (
      ordered,
      record {
        ordered = omega arith;
        start = subst (IsCharBoundary text) (sym place) first;
        end = subst (IsCharBoundary text) (sym place') last;
      },
      stand text utf8 ls (head ++ spell l) rest parts' end end (omega arith) place',
    )

pub cut_stands : (text : List ℕ) (placed : List Placed) (end : ℕ) → IsUtf8 text → IsCut text placed end
    → StandApart text 0 placed
cut_stands text placed end utf8 cut =
    let ls = cut.cut.lexemes in
    let parts : flat_map spell ls ++ cut.cut.rest ≡ chars text =
    ap (λ x. x ++ cut.cut.rest) cut.cut.lexes.whole ∙ cut.cut.parts in
    subst (StandApart text 0) (sym cut.says) (stand text utf8 ls [] cut.cut.rest parts 0 0 (omega arith) refl)
