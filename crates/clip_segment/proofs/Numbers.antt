-- Lists of the same numbers.
use Rattle.std.proofs.Common.{◌≡◌, ℕ, suc, ◌<◌, ◌≤◌, Bool, false, ◌||◌, nat_eq, ne_eqb, List, [], ◌∷◌, All, refl, ap}
use Rattle.std.proofs.Common.{sym, ◌∙◌, arith}
use Rattle.std.specs.FinMap.{nat_cmp-IsAntisymmetric}
use Rattle.std.specs.Cmp.{nat_cmp_total, unsigned_ties}
use Rattle.std.specs.List.{list_any}
use Rattle.clip_extract.proofs.Members.{same_members}

-- two lists of the same numbers pass each test alike
pub same_tests : (p : ℕ → Bool) (ms ns : List ℕ) → ((q : ℕ) → list_any (nat_eq q) ms ≡ list_any (nat_eq q) ns)
    → list_any p ms ≡ list_any p ns
same_tests p ms ns same =
    same_members nat_cmp_total nat_cmp-IsAntisymmetric p ms ns
    (λ q. ap (λ f. list_any f ms) (λ i m. sym (unsigned_ties q m) i) ∙ same q
    ∙ ap (λ f. list_any f ns) (λ i n. unsigned_ties q n i))

-- a number is among none of those that are below it
pub none_below : (bound n : ℕ) (ns : List ℕ) → bound ≤ n → All (λ m. m < bound) ns → list_any (nat_eq n) ns ≡ false
none_below bound n [] le within = refl
none_below bound n (m ∷ ns) le within =
    let lt : m < bound = within 0 m (omega arith) in
    ap (λ b. b || list_any (nat_eq n) ns) (ne_eqb n m (λ e. absurd (omega (arith, e, le, lt))))
    ∙ none_below bound n ns le (λ k d inside. within (suc k) d (omega arith))
