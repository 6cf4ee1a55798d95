-- Texts compare as their leads, where these differ.
use Rattle.std.proofs.Common.{◌≡◌, ℕ, zero, suc, ◌+◌, ◌-◌, ◌*◌, ◌^◌, ◌<◌, ◌≤◌, List, length, [], ◌∷◌, Less, Equal}
use Rattle.std.proofs.Common.{Greater, Ordering, refl, sym, ap, ◌∙◌, subst, arith, add-zero, add-one, drop, get_or}
use Rattle.std.proofs.Common.{nat_lt, is_lt, lt-ltb, le-ltb, ◌/◌, ◌%◌, take, min}
use Rattle.std.specs.Int.{from_be_bytes, w64}
use Rattle.std.specs.Ordering.{ordering_then, nat_cmp, MatchOrdering, ordering_reverse}
use Rattle.std.proofs.lemmas.Cmp.{ranked}
use Rattle.std.specs.Cmp.Lexicographic.{nat_list_cmp_total}
use Rattle.clip_words.specs.Order.{bytes_cmp}
use Rattle.clip_meaning.specs.Leads.{AreBytes, IsLead, lead_after, lead_of}

-- a lesser number stays less
grows : (k m n : ℕ) (xs ys : List ℕ) → AreBytes xs → m < n → lead_after m k xs < lead_after n k ys
grows zero m n xs ys bytes lt = lt
grows (suc k) m n [] [] bytes lt = grows k (m * 256) (n * 256) [] [] bytes (omega arith)
grows (suc k) m n [] (y ∷ ys) bytes lt = grows k (m * 256) (n * 256 + y) [] ys bytes (omega arith)
grows (suc k) m n (x ∷ xs) [] bytes lt = let small : x < 256 = bytes.0 in
    grows k (m * 256 + x) (n * 256) xs [] bytes.1 (omega arith)
grows (suc k) m n (x ∷ xs) (y ∷ ys) bytes lt = let small : x < 256 = bytes.0 in
    grows k (m * 256 + x) (n * 256 + y) xs ys bytes.1 (omega arith)

less_than_none : (xs : List ℕ) → bytes_cmp xs [] ≡ Less → ⊥
less_than_none [] e = cc
less_than_none (x ∷ xs) e = cc

below : (k m : ℕ) (xs ys : List ℕ) → AreBytes ys → lead_after m k xs < lead_after m k ys → bytes_cmp xs ys ≡ Less
below zero m xs ys bytes lt = absurd (omega arith)
below (suc k) m [] [] bytes lt = below k (m * 256) [] [] bytes lt
below (suc k) m [] (y ∷ ys) bytes lt = refl
below (suc k) m (zero ∷ xs) [] bytes lt =
    absurd (less_than_none xs
    (below k (m * 256) xs [] bytes
    (subst (λ n. lead_after n k xs < lead_after (m * 256) k []) (add-zero (m * 256)) lt)))
below (suc k) m (suc x ∷ xs) [] bytes lt =
    let more : lead_after (m * 256) k [] < lead_after (m * 256 + suc x) k xs =
    grows k (m * 256) (m * 256 + suc x) [] xs tt (omega arith) in absurd (omega arith)
below (suc k) m (x ∷ xs) (y ∷ ys) bytes lt =
    by_order (nat_cmp x y) (ranked x y (nat_cmp x y) refl) (below k (m * 256 + y) xs ys bytes.1)
  where
    by_order : (o : Ordering) → MatchOrdering o (x < y) (x ≡ y) (y < x)
        → (lead_after (m * 256 + y) k xs < lead_after (m * 256 + y) k ys → bytes_cmp xs ys ≡ Less)
        → ordering_then o (bytes_cmp xs ys) ≡ Less
    by_order Less less rest = refl
    by_order Equal same rest = rest (subst (λ n. lead_after (m * 256 + n) k xs < lead_after (m * 256 + y) k ys) same lt)
    by_order Greater more rest =
        let turned : lead_after (m * 256 + y) k ys < lead_after (m * 256 + x) k xs =
        grows k (m * 256 + y) (m * 256 + x) ys xs bytes.1 (omega arith) in absurd (omega arith)

-- of two texts the one of the lesser lead is below
pub lead_below : (xs ys : List ℕ) (m n : ℕ) → IsLead xs m → IsLead ys n → m < n → bytes_cmp xs ys ≡ Less
unfolding lead_of
lead_below xs ys m n a b lt =
    below 8 0 xs ys b.bytes (let first : m ≡ lead_after 0 8 xs = a.number in let second : n ≡ lead_after 0 8 ys =
    b.number in omega arith)

-- of two texts whose leads differ
pub leads_settle : (xs ys : List ℕ) (m n : ℕ) → IsLead xs m → IsLead ys n → (m ≡ n → ⊥) → nat_cmp m n ≡ bytes_cmp xs ys
leads_settle xs ys m n a b apart = by_order (nat_cmp m n) (ranked m n _ refl)
  where
    by_order : (o : Ordering) → MatchOrdering o (m < n) (m ≡ n) (n < m) → o ≡ bytes_cmp xs ys
    by_order Less less = sym (lead_below xs ys m n a b less)
    by_order Equal same = absurd (apart same)
    by_order Greater more = sym (nat_list_cmp_total.antisymm xs ys
        ∙ ap ordering_reverse (lead_below ys xs n m b a more))

-- of two texts whose leads differ, whatever is compared after them
pub leads_settle_first : (xs ys : List ℕ) (m n : ℕ) (after : Ordering) → IsLead xs m → IsLead ys n → (m ≡ n → ⊥)
    → nat_cmp m n ≡ ordering_then (bytes_cmp xs ys) after
leads_settle_first xs ys m n after a b apart = by_order (nat_cmp m n) (ranked m n _ refl)
  where
    by_order : (o : Ordering) → MatchOrdering o (m < n) (m ≡ n) (n < m) → o ≡ ordering_then (bytes_cmp xs ys) after
    by_order Less less = ap (λ o. ordering_then o after) (sym (lead_below xs ys m n a b less))
    by_order Equal same = absurd (apart same)
    by_order Greater more = ap (λ o. ordering_then o after)
        (sym (nat_list_cmp_total.antisymm xs ys ∙ ap ordering_reverse (lead_below ys xs n m b a more)))

-- of two texts of the same length that have no byte past the lead
tied : (k m : ℕ) (xs ys : List ℕ) → AreBytes xs → AreBytes ys → length xs ≡ length ys → length xs ≤ k
    → lead_after m k xs ≡ lead_after m k ys → bytes_cmp xs ys ≡ Equal
tied k m [] [] a b long short same = refl
tied k m [] (y ∷ ys) a b long short same = absurd (omega arith)
tied k m (x ∷ xs) [] a b long short same = absurd (omega arith)
tied zero m (x ∷ xs) (y ∷ ys) a b long short same = absurd (omega arith)
tied (suc k) m (x ∷ xs) (y ∷ ys) a b long short same =
    by_order (nat_cmp x y) (ranked x y (nat_cmp x y) refl)
    (tied k (m * 256 + y) xs ys a.1 b.1 (omega arith) (omega arith))
  where
    by_order : (o : Ordering) → MatchOrdering o (x < y) (x ≡ y) (y < x)
        → (lead_after (m * 256 + y) k xs ≡ lead_after (m * 256 + y) k ys → bytes_cmp xs ys ≡ Equal)
        → ordering_then o (bytes_cmp xs ys) ≡ Equal
    by_order Less less rest =
        let lt : lead_after (m * 256 + x) k xs < lead_after (m * 256 + y) k ys =
        grows k (m * 256 + x) (m * 256 + y) xs ys a.1 (omega arith) in absurd (omega arith)
    by_order Equal e rest = rest (subst (λ n. lead_after (m * 256 + n) k xs ≡ lead_after (m * 256 + y) k ys) e same)
    by_order Greater more rest =
        let lt : lead_after (m * 256 + y) k ys < lead_after (m * 256 + x) k xs =
        grows k (m * 256 + y) (m * 256 + x) ys xs b.1 (omega arith) in absurd (omega arith)

pub leads_tie : (xs ys : List ℕ) (m n : ℕ) → IsLead xs m → IsLead ys n → m ≡ n → length xs ≡ length ys → length xs ≤ 8
    → Equal ≡ bytes_cmp xs ys
unfolding lead_of
leads_tie xs ys m n a b same long short =
    sym (tied 8 0 xs ys a.bytes b.bytes long short (sym a.number ∙ same ∙ b.number))

-- ---- one byte after another

pub bytes_of : (text : List ℕ) → ((i : ℕ) → get_or text i 0 < 256) → AreBytes text
bytes_of [] all = tt
bytes_of (b ∷ text) all = (all 0, bytes_of text (λ i. all (suc i)))

step : (i lead k : ℕ) (bytes : List ℕ) → lead_after lead (suc k) (drop i bytes)
    ≡ lead_after (lead * 256 + get_or bytes i 0) k (drop (suc i) bytes)
step zero lead k [] = ap (λ n. lead_after n k []) (sym (add-zero (lead * 256)))
step zero lead k (b ∷ bytes) = refl
step (suc i) lead k [] = ap (λ n. lead_after n k []) (sym (add-zero (lead * 256)))
step (suc i) lead k (b ∷ bytes) = step i lead k bytes

-- eight bytes of which i are read
pub one_more : (i lead next : ℕ) (bytes : List ℕ) → i < 8 → next ≡ lead * 256 + get_or bytes i 0
    → lead_after lead (8 - i) (drop i bytes) ≡ lead_after 0 8 bytes
    → lead_after next (8 - (i + 1)) (drop (i + 1) bytes) ≡ lead_after 0 8 bytes
one_more i lead next bytes lt is so_far =
    let left : 8 - i ≡ suc (8 - (i + 1)) = omega arith in
    ap (λ n. lead_after n (8 - (i + 1)) (drop (i + 1) bytes)) is
    ∙ ap (λ j. lead_after (lead * 256 + get_or bytes i 0) (8 - (i + 1)) (drop j bytes)) (add-one i)
    ∙ sym (step i lead (8 - (i + 1)) bytes)
    ∙ ap (λ n. lead_after lead n (drop i bytes)) (sym left)
    ∙ so_far

pub all_read : (lead i : ℕ) (bytes : List ℕ) → i ≡ 8 → lead_after lead (8 - i) (drop i bytes) ≡ lead_after 0 8 bytes
    → lead ≡ lead_of bytes
unfolding lead_of
all_read lead i bytes end so_far = ap (λ j. lead_after lead (8 - j) (drop j bytes)) (sym end) ∙ so_far

-- no number of eight bytes is too large
pub room : (i lead byte : ℕ) → i < 8 → lead < 256 ^ i → byte < 256 → (lead * 256 + byte < 2 ^ 64)
    × (lead * 256 + byte < 256 ^ (i + 1))
room zero lead byte lt small is = (omega arith, omega arith)
room (suc zero) lead byte lt small is = (omega arith, omega arith)
room (suc (suc zero)) lead byte lt small is = (omega arith, omega arith)
room (suc (suc (suc zero))) lead byte lt small is = (omega arith, omega arith)
room (suc (suc (suc (suc zero)))) lead byte lt small is = (omega arith, omega arith)
room (suc (suc (suc (suc (suc zero))))) lead byte lt small is = (omega arith, omega arith)
room (suc (suc (suc (suc (suc (suc zero)))))) lead byte lt small is = (omega arith, omega arith)
room (suc (suc (suc (suc (suc (suc (suc zero))))))) lead byte lt small is = (omega arith, omega arith)
room (suc (suc (suc (suc (suc (suc (suc (suc i)))))))) lead byte lt small is = absurd (omega arith)

-- a number that is less, told by an order
pub lesser : (m n : ℕ) → nat_lt m n ≡ is_lt (nat_cmp m n)
lesser m n = by_order (nat_cmp m n) (ranked m n _ refl)
  where
    by_order : (o : Ordering) → MatchOrdering o (m < n) (m ≡ n) (n < m) → nat_lt m n ≡ is_lt o
    by_order Less less = lt-ltb m n less
    by_order Equal same = le-ltb m n (omega arith)
    by_order Greater more = le-ltb m n (omega arith)

-- ---- eight bytes as one number

-- what is left of eight bytes when all behind so many are 0
abbrev pub kept : (first bits : ℕ) → ℕ
kept first bits = first / 2 ^ bits * 2 ^ bits % 18446744073709551616

abbrev Ahead : List ℕ → (n m : ℕ) → Type 0
Ahead xs n m = (first : ℕ) → first ≡ from_be_bytes w64 (take 8 xs) → kept first (64 - 8 * m) ≡ lead_of (take n xs)

eight : (a b c d e f g h : ℕ) (xs : List ℕ) → a < 256 → b < 256 → c < 256 → d < 256 → e < 256 → f < 256 → g < 256
    → h < 256 → (n : ℕ) → 0 < n → Ahead (a ∷ b ∷ c ∷ d ∷ e ∷ f ∷ g ∷ h ∷ xs) n (min n 8)
unfolding lead_of
eight a b c d e f g h xs la lb lc ld le lf lg lh zero some first is = absurd (omega arith)
eight a b c d e f g h xs la lb lc ld le lf lg lh (suc zero) some first is = omega arith
eight a b c d e f g h xs la lb lc ld le lf lg lh (suc (suc zero)) some first is = omega arith
eight a b c d e f g h xs la lb lc ld le lf lg lh (suc (suc (suc zero))) some first is = omega arith
eight a b c d e f g h xs la lb lc ld le lf lg lh (suc (suc (suc (suc zero)))) some first is = omega arith
eight a b c d e f g h xs la lb lc ld le lf lg lh (suc (suc (suc (suc (suc zero))))) some first is = omega arith
eight a b c d e f g h xs la lb lc ld le lf lg lh (suc (suc (suc (suc (suc (suc zero)))))) some first is = omega arith
eight a b c d e f g h xs la lb lc ld le lf lg lh (suc (suc (suc (suc (suc (suc (suc zero))))))) some first is =
    omega arith
eight a b c d e f g h xs la lb lc ld le lf lg lh (suc (suc (suc (suc (suc (suc (suc (suc n)))))))) some first is =
    let all : min (suc (suc (suc (suc (suc (suc (suc (suc n)))))))) 8 ≡ 8 = omega arith in
    let whole : kept first 0 ≡ lead_of (a ∷ b ∷ c ∷ d ∷ e ∷ f ∷ g ∷ h ∷ take n xs) = omega arith in
    ap (λ m. kept first (64 - 8 * m)) all ∙ whole

-- the lead of a text of so many bytes that others begin with
pub lead_kept : (xs : List ℕ) (n first : ℕ) → ((i : ℕ) → get_or xs i 0 < 256) → 8 ≤ length xs → (n ≡ 0 → ⊥)
    → first ≡ from_be_bytes w64 (take 8 xs) → kept first (64 - 8 * min n 8) ≡ lead_of (take n xs)
lead_kept (a ∷ b ∷ c ∷ d ∷ e ∷ f ∷ g ∷ h ∷ xs) n first bytes long some is =
    eight a b c d e f g h xs (bytes 0) (bytes 1) (bytes 2) (bytes 3) (bytes 4) (bytes 5) (bytes 6) (bytes 7) n
    (above n some) first is
  where
    above : (m : ℕ) → (m ≡ 0 → ⊥) → 0 < m
    above zero not = absurd (not refl)
    above (suc m) not = omega arith
lead_kept [] n first bytes long some is = absurd (omega (arith, long))
lead_kept (a ∷ []) n first bytes long some is = absurd (omega (arith, long))
lead_kept (a ∷ b ∷ []) n first bytes long some is = absurd (omega (arith, long))
lead_kept (a ∷ b ∷ c ∷ []) n first bytes long some is = absurd (omega (arith, long))
lead_kept (a ∷ b ∷ c ∷ d ∷ []) n first bytes long some is = absurd (omega (arith, long))
lead_kept (a ∷ b ∷ c ∷ d ∷ e ∷ []) n first bytes long some is = absurd (omega (arith, long))
lead_kept (a ∷ b ∷ c ∷ d ∷ e ∷ f ∷ []) n first bytes long some is = absurd (omega (arith, long))
lead_kept (a ∷ b ∷ c ∷ d ∷ e ∷ f ∷ g ∷ []) n first bytes long some is = absurd (omega (arith, long))

pub bytes_kept : (n : ℕ) (xs : List ℕ) → ((i : ℕ) → get_or xs i 0 < 256) → AreBytes (take n xs)
bytes_kept zero xs all = tt
bytes_kept (suc n) [] all = tt
bytes_kept (suc n) (x ∷ xs) all = (all 0, bytes_kept n xs (λ i. all (suc i)))

pub lead_none : (n : ℕ) (xs : List ℕ) → n ≡ 0 → IsLead (take n xs) 0
unfolding lead_of
lead_none zero xs is = record { bytes = tt; number = refl }
lead_none (suc n) xs is = absurd (omega (arith, is))
