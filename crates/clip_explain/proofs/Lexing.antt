-- A text cut into lexemes, one more at a time.
use Rattle.std.proofs.Common.{◌≡◌, ℕ, ◌+◌, ◌-◌, ◌<◌, ◌≤◌, List, [], ◌∷◌, ◌++◌, map, length, take, drop, Some, flat_map}
use Rattle.std.proofs.Common.{encode_utf8_all, refl, sym, ap, subst, ◌∙◌, arith, append_assoc, append-nil}
use Rattle.std.proofs.Common.{length-append}
use Rattle.std.specs.Option.{option_map}
use Rattle.std.specs.Str.{chars}
use Rattle.std.proofs.Math.Seq.{take-append_seam}
use Rattle.std.proofs.lemmas.Str.{encodes-append}
use Rattle.std.proofs.lemmas.List.{take-append-drop}
use Rattle.std.proofs.lemmas.List.Concat.{flat_map-append}
use Rattle.clip_grammar.specs.Lexemes.{Lexeme, spell}
use Rattle.clip_grammar.specs.Steps.Lexer.{lexeme_at, Finds}
use Rattle.clip_grammar.specs.Tokens.{Token, tokens_of_lexeme}
use Rattle.clip_grammar.proofs.Pieces.{if_some_at}
use Rattle.clip_grammar.proofs.Fronts.{LexemeFound, lexeme_found}
use Rattle.clip_grammar.proofs.Lexing.{finds_more, found_spells, found_lexemes, stuck}
use Rattle.clip_grammar.proofs.Refusals.{lexeme_shorter}
use Rattle.clip_syntax.specs.Steps.Lexing.{with_tokens}
use Rattle.clip_syntax.proofs.Glyphs.{mapped_some}
use Rattle.clip_explain.specs.Lexemes.{Placed, IsCut, byte_len, placed_at, placed_from}
use Rattle.clip_explain.specs.Steps.Cutting.{IsCutting, IsCutUp}

-- the bytes of lexemes
abbrev bytes_of : List Lexeme → ℕ
bytes_of ls = length (encode_utf8_all (flat_map spell ls))

pub bytes_more : (front back : List ℕ)
    → length (encode_utf8_all (front ++ back)) ≡ length (encode_utf8_all front) + length (encode_utf8_all back)
bytes_more front back =
    ap length (encodes-append front back) ∙ length-append (encode_utf8_all front) (encode_utf8_all back)

placed_more : (start : ℕ) (ls : List Lexeme) (l : Lexeme)
    → placed_from start (ls ++ l ∷ []) ≡ placed_from start ls ++ placed_at (start + bytes_of ls) l
placed_more start [] l =
    let here : start ≡ start + 0 = omega arith in
    append-nil (placed_at start l) ∙ ap (λ n. placed_at n l) here
placed_more start (k ∷ ls) l =
    let there : (start + byte_len k) + bytes_of ls ≡ start + bytes_of (k ∷ ls) =
    omega (arith, bytes_more (spell k) (flat_map spell ls)) in
    ap (λ x. placed_at start k ++ x) (placed_more (start + byte_len k) ls l)
    ∙ sym (append_assoc (placed_at start k) (placed_from (start + byte_len k) ls)
    (placed_at ((start + byte_len k) + bytes_of ls) l))
    ∙ ap (λ n. (placed_at start k ++ placed_from (start + byte_len k) ls) ++ placed_at n l) there

-- the lexeme that is found is the text before the rest
pub found_front : (mid rest : List ℕ) (l : Lexeme) → lexeme_at mid ≡ Some (l, rest)
    → take (length mid - length rest) mid ≡ spell l
found_front mid rest l e =
    let parts = (if_some_at (LexemeFound mid) e (lexeme_found mid)).parts in
    let len : length mid - length rest ≡ length (spell l) =
    omega (arith, ap length parts, length-append (spell l) rest) in
    ap (λ n. take n mid) len ∙ ap (λ x. take (length (spell l)) x) (sym parts) ∙ take-append_seam (spell l) rest

-- a lexeme's token with its place
abbrev pub at_place : (start end : ℕ) → Token → Placed
at_place start end token = record { token = token; start = start; end = end }

-- one more lexeme
pub cutting_more : (text : List ℕ) (ps : List Placed) (mid : List ℕ) (start : ℕ) (us : List Token) (rest : List ℕ)
    (end : ℕ) → IsCutting text ps mid start → option_map with_tokens (lexeme_at mid) ≡ Some (us, rest)
    → end ≡ start + length (encode_utf8_all (take (length mid - length rest) mid))
    → IsCutting text (ps ++ map (at_place start end) us) rest end
cutting_more text ps mid start us rest end before e sum =
    let found = mapped_some with_tokens (lexeme_at mid) (us, rest) e in
    let l = found.0.0 in
    let says : tokens_of_lexeme l ≡ us = ap (λ (v : List Token × List ℕ). v.0) found.2 in
    let left : found.0.1 ≡ rest = ap (λ (v : List Token × List ℕ). v.1) found.2 in
    let at : lexeme_at mid ≡ Some (l, rest) = found.1 ∙ ap (λ x. Some (l, x)) left in
    let width : end ≡ bytes_of before.lexemes + byte_len l =
    sum ∙ ap (λ x. start + length (encode_utf8_all x)) (found_front mid rest l at)
    ∙ ap (λ n. n + byte_len l) before.place in
    record {
      lexemes = before.lexemes ++ l ∷ [];
      finds = finds_more before.lexemes text mid l rest before.finds at;
      says = ap (λ x. x ++ map (at_place start end) us) before.says
          ∙ ap (λ x. placed_from 0 before.lexemes ++ map (at_place start end) x) (sym says)
          ∙ ap (λ (n : ℕ). placed_from 0 before.lexemes ++ map (at_place n end) (tokens_of_lexeme l)) before.place
          ∙ ap (λ n. placed_from 0 before.lexemes
          ++ map (at_place (bytes_of before.lexemes) n) (tokens_of_lexeme l)) width
          ∙ ap (λ n. placed_from 0 before.lexemes ++ placed_at n l) zero_first
          ∙ sym (placed_more 0 before.lexemes l);
      place = width ∙ sym (bytes_more (flat_map spell before.lexemes) (spell l))
          ∙ ap (λ x. length (encode_utf8_all x)) (spelled_more before.lexemes l);
    }
  where
    zero_first : bytes_of before.lexemes ≡ 0 + bytes_of before.lexemes
    zero_first = omega arith

    spelled_more : (ls : List Lexeme) (l : Lexeme) → flat_map spell ls ++ spell l ≡ flat_map spell (ls ++ l ∷ [])
    spelled_more ls l =
        ap (λ x. flat_map spell ls ++ x) (sym (append-nil (spell l))) ∙ sym (flat_map-append spell ls (l ∷ []))

-- what is left is shorter, and its bytes are among those of the text
pub rest_shorter : (mid : List ℕ) (us : List Token) (rest : List ℕ)
    → option_map with_tokens (lexeme_at mid) ≡ Some (us, rest) → length rest < length mid
rest_shorter mid us rest e =
    let found = mapped_some with_tokens (lexeme_at mid) (us, rest) e in
    let left : found.0.1 ≡ rest = ap (λ (v : List Token × List ℕ). v.1) found.2 in
    subst (λ x. length x < length mid) left (lexeme_shorter mid found.0.0 found.0.1 found.1)

pub cut_fits : (text : List ℕ) (ps : List Placed) (rest : List ℕ) (end : ℕ) → IsCutting text ps rest end
    → end + length (encode_utf8_all rest) ≡ length (encode_utf8_all text)
cut_fits text ps rest end cutting =
    ap (λ n. n + length (encode_utf8_all rest)) cutting.place
    ∙ sym (bytes_more (flat_map spell cutting.lexemes) rest)
    ∙ ap (λ x. length (encode_utf8_all x)) (found_spells cutting.lexemes text rest cutting.finds)

-- the front of a text has no more bytes than the text
pub front_fits : (mid : List ℕ) (n : ℕ) → length (encode_utf8_all (take n mid)) ≤ length (encode_utf8_all mid)
front_fits mid n =
    omega (arith, bytes_more (take n mid) (drop n mid), ap (λ x. length (encode_utf8_all x)) (take-append-drop n mid))

-- the whole text is cut
pub cut_up : (text cs : List ℕ) (ps : List Placed) (end : ℕ) → cs ≡ chars text → IsCutUp cs ps end → IsCut text ps end
cut_up text cs ps end e cut =
    let all = subst (λ x. IsCutUp x ps end) e cut in
    let ls = all.cutting.lexemes in
    let finds : Finds (chars text) ls all.rest = all.cutting.finds in
    record {
      cut = record {
        front = flat_map spell ls;
        rest = all.rest;
        lexemes = ls;
        parts = found_spells ls (chars text) all.rest finds;
        lexes = record { lexemes = found_lexemes ls (chars text) all.rest finds; whole = refl };
        place = all.cutting.place;
        furthest = (stuck text ls all.rest end finds all.stops all.cutting.place).furthest;
      };
      says = all.cutting.says;
    }
