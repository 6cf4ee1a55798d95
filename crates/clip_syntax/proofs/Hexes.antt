-- Hexadecimal digits, by their ranges.
use Rattle.std.proofs.Common.{◌≡◌, ℕ, zero, suc, ◌+◌, Bool, true, false, ◌||◌, nat_eq, List, [], ◌∷◌, ◌++◌, refl, sym}
use Rattle.std.proofs.Common.{ap, ◌∙◌, arith}
use Rattle.std.specs.Int.{is_in_range}
use Rattle.std.specs.Char.{is_ascii_hexdigit}
use Rattle.std.proofs.lemmas.Bool.Decides.{nat_tests}
use Rattle.std.proofs.lemmas.List.Folds.{list_any-append}
use Rattle.clip_grammar.specs.Characters.{is_among, is_hex}

-- n + 1 characters that follow one another
abbrev run : (first n : ℕ) → List ℕ
run first zero = first ∷ []
run first (suc n) = first ∷ run (suc first) n

among_run : (first n c : ℕ) → is_among (run first n) c ≡ is_in_range first (first + n) c
among_run first zero c = grind (arith, nat_tests)
among_run first (suc n) c = ap (λ b. nat_eq c first || b) (among_run (suc first) n c) ∙ step
  where
    step : (nat_eq c first || is_in_range (suc first) (suc first + n) c) ≡ is_in_range first (first + suc n) c
    step = grind (arith, nat_tests)

or_turned : (a b c : Bool) → ((a || b) || c) ≡ (a || (c || b))
or_turned true b c = refl
or_turned false true true = refl
or_turned false true false = refl
or_turned false false true = refl
or_turned false false false = refl

pub hex_ranges : (c : ℕ) → is_ascii_hexdigit c ≡ is_hex c
hex_ranges c =
    or_turned (is_in_range 48 57 c) (is_in_range 65 70 c) (is_in_range 97 102 c)
    ∙ sym (list_any-append (λ d. nat_eq c d) (run 48 9) (run 97 5 ++ run 65 5)
    ∙ ap (λ b. is_among (run 48 9) c || b) (list_any-append (λ d. nat_eq c d) (run 97 5) (run 65 5))
    ∙ ap (λ b. b || (is_among (run 97 5) c || is_among (run 65 5) c)) (among_run 48 9 c)
    ∙ ap (λ b. is_in_range 48 57 c || (b || is_among (run 65 5) c)) (among_run 97 5 c)
    ∙ ap (λ b. is_in_range 48 57 c || (is_in_range 97 102 c || b)) (among_run 65 5 c))
