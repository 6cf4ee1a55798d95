-- Tests on numbers.
use Rattle.std.proofs.Common.{◌≡◌, ℕ, ◌<◌, true, false, ◌==◌, arith}
use Rattle.std.proofs.lemmas.Bool.Decides.{nat_tests}

pub same_numbers : (a b : ℕ) → (a == b) ≡ true → a ≡ b
same_numbers a b h = grind (arith, nat_tests)

pub numbers_same : (a b : ℕ) → a ≡ b → (a == b) ≡ true
numbers_same a b h = grind (arith, nat_tests)

pub number_less : (a b : ℕ) → a < b → (a == b) ≡ false
number_less a b h = grind (arith, nat_tests)

pub number_more : (a b : ℕ) → b < a → (a == b) ≡ false
number_more a b h = grind (arith, nat_tests)
