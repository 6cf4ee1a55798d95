-- The positions of queries that pass a test, and flags of them.
use Rattle.std.proofs.Common.{◌≡◌, ℕ, zero, suc, ◌+◌, ◌<◌, Bool, true, false, cond, ◌&&◌, ◌||◌, nat_eq, List, [], ◌∷◌}
use Rattle.std.proofs.Common.{length, map, filter, flat_map, get_or, refl, sym, ap, ap₂, ◌∙◌, arith, eq-eqb, ne_eqb}
use Rattle.std.specs.Cmp.{eq_by_cmp_equiv}
use Rattle.std.specs.List.{list_any, enumerate_from}
use Rattle.std.proofs.Math.Bool.{and-false, and-true, or-false}
use Rattle.std.proofs.lemmas.Bool.{false≢true}
use Rattle.std.proofs.lemmas.List.{ext_get_or, length-map}
use Rattle.clip_pieces.specs.Marked.{marked_from}
use Rattle.clip_grammar.specs.Tree.{Tree}
use Rattle.clip_extract.specs.Keys.{KeyValue, is_same, share}
use Rattle.clip_extract.proofs.Order.{key_cmp_total}
use Rattle.clip_segment.specs.Index.{has_key, query_positions, query_positions_with, query_positions_sharing}
use Rattle.clip_segment.proofs.AnyOf.{any_swap, any_and, any_flat_map, any_map_filter}

abbrev fronts : List (ℕ × Tree) → List ℕ
fronts = map (λ (e : ℕ × Tree). e.0)

-- ---- the positions of the keys are those of the queries that share one

share_swap : (keys_of : Tree → List KeyValue) (ks : List KeyValue) (tree : Tree)
    → list_any (λ k. has_key keys_of k tree) ks ≡ share (keys_of tree) ks
share_swap keys_of ks tree =
    any_swap is_same ks (keys_of tree)
    ∙ ap (λ f. list_any f (keys_of tree)) (λ i l. list_any (λ k. (eq_by_cmp_equiv key_cmp_total).symm k l i) ks)

pub any_position : (keys_of : Tree → List KeyValue) (ks : List KeyValue) (trees : List Tree) (q : ℕ)
    → list_any (nat_eq q) (flat_map (λ k. query_positions_with keys_of k trees) ks)
    ≡ list_any (nat_eq q) (query_positions_sharing keys_of ks trees)
any_position keys_of ks trees q =
    let all = enumerate_from 0 trees in
    any_flat_map (nat_eq q) (λ k. query_positions_with keys_of k trees) ks
    ∙ ap (λ f. list_any f ks)
    (λ i k. any_map_filter (nat_eq q) (λ (e : ℕ × Tree). e.0) (λ (e : ℕ × Tree). has_key keys_of k e.1) all i)
    ∙ any_swap (λ k (e : ℕ × Tree). has_key keys_of k e.1 && nat_eq q e.0) ks all
    ∙ ap (λ f. list_any f all) (λ i (e : ℕ × Tree). any_and (λ k. has_key keys_of k e.1) (nat_eq q e.0) ks i)
    ∙ ap (λ f. list_any f all) (λ i (e : ℕ × Tree). share_swap keys_of ks e.1 i && nat_eq q e.0)
    ∙ sym (any_map_filter (nat_eq q) (λ (e : ℕ × Tree). e.0) (λ (e : ℕ × Tree). share (keys_of e.1) ks) all)

-- ---- a flag for each query

not_both : (b : Bool) → ((b && false) || false) ≡ false
not_both true = refl
not_both false = refl

none_before : (test : Tree → Bool) (m n : ℕ) (trees : List Tree) → m < n
    → list_any (λ (e : ℕ × Tree). test e.1 && nat_eq m e.0) (enumerate_from n trees) ≡ false
none_before test m n [] lt = refl
none_before test m n (t ∷ ts) lt =
    ap₂ (λ a b. (test t && a) || b) (ne_eqb m n (λ e. omega arith)) (none_before test m (n + 1) ts (omega arith))
    ∙ not_both (test t)

flag_at : (test : Tree → Bool) (n position : ℕ) (trees : List Tree)
    → list_any (λ (e : ℕ × Tree). test e.1 && nat_eq (n + position) e.0) (enumerate_from n trees)
    ≡ get_or (map test trees) position false
flag_at test n position [] = refl
flag_at test n zero (t ∷ ts) =
    ap₂ (λ a b. (test t && a) || b) (eq-eqb (n + 0) n (omega arith))
    (none_before test (n + 0) (n + 1) ts (omega arith)) ∙ or-false (test t && true) ∙ and-true (test t)
flag_at test n (suc position) (t ∷ ts) =
    let far : n + suc position ≡ n + 1 + position = omega arith in
    ap₂ (λ a m. (test t && a) || list_any (λ (e : ℕ × Tree). test e.1 && nat_eq m e.0) (enumerate_from (n + 1) ts))
    (ne_eqb (n + suc position) n (λ e. omega arith)) far
    ∙ ap (λ b. b || list_any (λ (e : ℕ × Tree). test e.1 && nat_eq (n + 1 + position) e.0) (enumerate_from (n + 1) ts))
    (and-false (test t))
    ∙ flag_at test (n + 1) position ts

-- a position is among those that pass where its query does
pub position_passes : (test : Tree → Bool) (trees : List Tree) (position : ℕ)
    → list_any (nat_eq position) (query_positions test trees) ≡ get_or (map test trees) position false
position_passes test trees position =
    let all = enumerate_from 0 trees in
    let from_none : position ≡ 0 + position = omega arith in
    any_map_filter (nat_eq position) (λ (e : ℕ × Tree). e.0) (λ (e : ℕ × Tree). test e.1) all
    ∙ ap (λ n. list_any (λ (e : ℕ × Tree). test e.1 && nat_eq n e.0) all) from_none
    ∙ flag_at test 0 position trees

-- the positions of the flags of a test are those of what passes it
pub marked_map : {X : Type 0} → (test : X → Bool) (n : ℕ) (xs : List X)
    → marked_from n (map test xs) ≡ map (λ e. e.0) (filter (λ e. test e.1) (enumerate_from n xs))
marked_map test n [] = refl
marked_map {X = X} test n (x ∷ xs) = by_test (test x) (marked_map test (n + 1) xs)
  where
    rest : List (ℕ × X)
    rest = filter (λ e. test e.1) (enumerate_from (n + 1) xs)

    by_test : (b : Bool) → marked_from (n + 1) (map test xs) ≡ map (λ (e : ℕ × X). e.0) rest
        → marked_from n (b ∷ map test xs) ≡ map (λ (e : ℕ × X). e.0) (cond b ((n, x) ∷ rest) rest)
    by_test true same = ap (λ ns. n ∷ ns) same
    by_test false same = same

-- flags of just the positions that pass are those of the test
pub passing_flags : (test : Tree → Bool) (trees : List Tree) (flags : List Bool) → length flags ≡ length trees
    → ((position : ℕ) → position < length flags
    → get_or flags position false ≡ list_any (nat_eq position) (query_positions test trees))
    → flags ≡ map test trees
passing_flags test trees flags long so =
    ext_get_or false flags (map test trees) (long ∙ sym (length-map trees test)) (λ position lt. so position lt
    ∙ position_passes test trees position)

-- ---- no positions where no query passes

pub no_positions : (p : Tree → Bool) (n : ℕ) (trees : List Tree) → list_any p trees ≡ false
    → fronts (filter (λ (e : ℕ × Tree). p e.1) (enumerate_from n trees)) ≡ []
no_positions p n [] none = refl
no_positions p n (t ∷ ts) none = by_test (p t) none (no_positions p (n + 1) ts)
  where
    rest : List (ℕ × Tree)
    rest = filter (λ (e : ℕ × Tree). p e.1) (enumerate_from (n + 1) ts)

    by_test : (b : Bool) → (b || list_any p ts) ≡ false → (list_any p ts ≡ false → fronts rest ≡ [])
        → fronts (cond b ((n, t) ∷ rest) rest) ≡ []
    by_test true none later = absurd (false≢true (sym none))
    by_test false none later = later none
