-- Whether some element of a list passes a test.
use Rattle.std.proofs.Common.{◌≡◌, Bool, true, false, ◌&&◌, ◌||◌, List, [], ◌∷◌, map, filter, refl, sym, ap, ◌∙◌}
use Rattle.std.specs.List.{list_any}
use Rattle.std.proofs.Math.Bool.{and-or_distrib_right}
use Rattle.clip_meaning.proofs.Numbered.{any_filter}
use Rattle.clip_extract.proofs.Members.{any_map}
pub use Rattle.clip_extract.proofs.Members.{any_flat_map}

or_swap : (a b c d : Bool) → ((a || b) || (c || d)) ≡ ((a || c) || (b || d))
or_swap true b c d = refl
or_swap false true true d = refl
or_swap false true false d = refl
or_swap false false c d = refl

any_false : {B : Type 0} (bs : List B) → list_any (λ b. false) bs ≡ false
any_false [] = refl
any_false (b ∷ bs) = any_false bs

pub any_or : {B : Type 0} (p q : B → Bool) (bs : List B) → list_any (λ b. p b || q b) bs
    ≡ (list_any p bs || list_any q bs)
any_or p q [] = refl
any_or p q (b ∷ bs) = ap (λ x. (p b || q b) || x) (any_or p q bs) ∙ or_swap (p b) (q b) (list_any p bs) (list_any q bs)

pub any_swap : {A B : Type 0} (r : A → B → Bool) (xs : List A) (bs : List B) → list_any (λ a. list_any (r a) bs) xs
    ≡ list_any (λ b. list_any (λ a. r a b) xs) bs
any_swap r [] bs = sym (any_false bs)
any_swap r (a ∷ xs) bs = ap (λ x. list_any (r a) bs || x) (any_swap r xs bs)
    ∙ sym (any_or (r a) (λ b. list_any (λ a. r a b) xs) bs)

pub any_and : {A : Type 0} (p : A → Bool) (c : Bool) (xs : List A) → list_any (λ a. p a && c) xs ≡ (list_any p xs && c)
any_and p c [] = refl
any_and p c (a ∷ xs) = ap (λ x. (p a && c) || x) (any_and p c xs) ∙ sym (and-or_distrib_right (p a) (list_any p xs) c)

pub any_map_filter : {A B : Type 0} (p : B → Bool) (f : A → B) (t : A → Bool) (xs : List A)
    → list_any p (map f (filter t xs)) ≡ list_any (λ a. t a && p (f a)) xs
any_map_filter p f t xs = any_map p f (filter t xs) ∙ any_filter t (λ a. p (f a)) xs
