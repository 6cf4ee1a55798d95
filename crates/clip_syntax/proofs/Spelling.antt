-- The bytes of characters and of glyphs, one character on.
use Rattle.std.proofs.Common.{◌≡◌, ℕ, ◌+◌, ◌<◌, List, ◌∷◌, ◌++◌, length, get_or, drop, encode_utf8, encode_utf8_all}
use Rattle.std.proofs.Common.{refl, sym, ap, ◌∙◌, append_assoc, length-append}
use Rattle.std.proofs.lemmas.List.{drop_more}
use Rattle.clip_grammar.specs.Tokens.{char_of, text_of}
use Rattle.clip_grammar.specs.declared.glyph.Glyph.{Glyph}

left_more : {A : Type 0} (xs : List A) (i : ℕ) (d x : A) → i < length xs → get_or xs i d ≡ x
    → drop i xs ≡ x ∷ drop (i + 1) xs
left_more xs i d x h e = drop_more xs i d h ∙ ap (λ y. y ∷ drop (i + 1) xs) e

pub bytes_more : (cs : List ℕ) (i c : ℕ) → i < length cs → c ≡ get_or cs i c
    → length (encode_utf8 c) + length (encode_utf8_all (drop (i + 1) cs)) ≡ length (encode_utf8_all (drop i cs))
bytes_more cs i c h e = sym (ap (λ x. length (encode_utf8_all x)) (left_more cs i c c h (sym e))
    ∙ length-append (encode_utf8 c) (encode_utf8_all (drop (i + 1) cs)))

pub text_more : (text more : List ℕ) (ms : List Glyph) (i : ℕ) (d : Glyph) (c : ℕ) → i < length ms
    → char_of (get_or ms i d) ≡ c → more ≡ text ++ encode_utf8 c → more ++ text_of (drop (i + 1) ms)
    ≡ text ++ text_of (drop i ms)
text_more text more ms i d c h e g =
    let left = drop (i + 1) ms in
    ap (λ x. x ++ text_of left) (g ∙ ap (λ x. text ++ encode_utf8 x) (sym e))
    ∙ append_assoc text (encode_utf8 (char_of (get_or ms i d))) (text_of left)
    ∙ ap (λ x. text ++ text_of x) (sym (left_more ms i d (get_or ms i d) h refl))
