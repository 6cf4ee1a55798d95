-- A list of keys that is sorted and has none twice.
use Rattle.std.proofs.Common.{◌≡◌, ℕ, Bool, ◌&&◌, List, [], ◌∷◌, map, length, ◌<◌, refl, sym, ap, ◌∙◌}
use Rattle.std.proofs.Common.{◌≤◌, subst, arith, IsPermutation}
use Rattle.std.specs.Ordering.{is_eq, on, nat_cmp, ordering_then}
use Rattle.std.specs.declared.cmp.Ordering.TheVariants.{Less, Equal, Greater}
use Rattle.std.specs.declared.cmp.Ordering.{Ordering}
use Rattle.std.specs.Cmp.{on_total, eq_by_cmp_equiv, both_tied}
use Rattle.std.specs.Cmp.Lexicographic.{slice_cmp, texts_ties}
use Rattle.std.specs.Arc.{arc_str_bytes}
use Rattle.std.specs.Str.{bytes_eq}
use Rattle.std.specs.List.{dedup, list_any, AllByRecursion}
use Rattle.std.specs.List.Sorted.{IsSorted, IsStrictlySortedBy}
use Rattle.std.specs.List.Retain.{IsFiltered, DiffersFromLast}
use Rattle.std.proofs.lemmas.List.{length-map}
use Rattle.std.proofs.lemmas.List.Filters.{dedup_is}
use Rattle.std.proofs.lemmas.List.Kept.{IsStrictlySortedBy-dedup}
use Rattle.std.proofs.lemmas.List.Sorted.{list_any-IsPermutation}
use Rattle.clip_words.specs.Order.{bytes_cmp}
use Rattle.clip_extract.specs.declared.key.Key.{Key}
use Rattle.clip_extract.specs.declared.key.Key.TheVariants as variant
use Rattle.clip_extract.specs.contracts.key.KeyOrd.TheImpl as key_ord
use Rattle.clip_extract.specs.contracts.key.KeyPartialEq.TheImpl as key_eq
use Rattle.clip_meaning.specs.Leads.{IsLead}
use Rattle.clip_meaning.proofs.Leads.{leads_tie}
use Rattle.clip_extract.specs.Keys.{KeyValue, key_of, key_cmp, is_same, in_order}
use Rattle.clip_extract.specs.Lengths.{IsShortLength}
use Rattle.clip_extract.proofs.Members.{any_map, any_deduped, strict_keys}
use Rattle.clip_extract.proofs.Order.{key_cmp_total, key_cmp_same, same_key}

-- ---- keys compare as what contracts see of them

then_equal : (r : Ordering) → r ≡ ordering_then r Equal
then_equal Less = refl
then_equal Equal = refl
then_equal Greater = refl

-- two texts each, first by first
pub two_texts : (f w g v : List ℕ) → ordering_then (bytes_cmp f g) (bytes_cmp w v)
    ≡ slice_cmp bytes_cmp (f ∷ w ∷ []) (g ∷ v ∷ [])
two_texts f w g v = ap (ordering_then (bytes_cmp f g)) (then_equal (bytes_cmp w v))

pub key_order : (x y : Key) → key_ord.ghosts.cmp x y ≡ key_cmp (key_of x) (key_of y)
key_order variant.Any variant.Any = refl
key_order variant.Any (variant.Word g v) = refl
key_order variant.Any (variant.Front g v) = refl
key_order (variant.Word f w) variant.Any = refl
key_order (variant.Word f w) (variant.Word g v) =
    two_texts (arc_str_bytes f) (arc_str_bytes w) (arc_str_bytes g) (arc_str_bytes v)
key_order (variant.Word f w) (variant.Front g v) = refl
key_order (variant.Front f w) variant.Any = refl
key_order (variant.Front f w) (variant.Word g v) = refl
key_order (variant.Front f w) (variant.Front g v) =
    two_texts (arc_str_bytes f) (arc_str_bytes w) (arc_str_bytes g) (arc_str_bytes v)

two_same : (f w g v : List ℕ) → (bytes_eq f g && bytes_eq w v) ≡ is_eq (slice_cmp bytes_cmp (f ∷ w ∷ []) (g ∷ v ∷ []))
two_same f w g v =
    both_tied _ _ (slice_cmp nat_cmp f g) (slice_cmp nat_cmp w v) (texts_ties f g) (texts_ties w v)
    ∙ ap (λ r. is_eq (ordering_then (slice_cmp nat_cmp f g) r)) (then_equal (slice_cmp nat_cmp w v))

pub key_equality : (x y : Key) → key_eq.ghosts.eq x y ≡ is_same (key_of x) (key_of y)
key_equality variant.Any variant.Any = refl
key_equality variant.Any (variant.Word g v) = refl
key_equality variant.Any (variant.Front g v) = refl
key_equality (variant.Word f w) variant.Any = refl
key_equality (variant.Word f w) (variant.Word g v) =
    two_same (arc_str_bytes f) (arc_str_bytes w) (arc_str_bytes g) (arc_str_bytes v)
key_equality (variant.Word f w) (variant.Front g v) = refl
key_equality (variant.Front f w) variant.Any = refl
key_equality (variant.Front f w) (variant.Word g v) = refl
key_equality (variant.Front f w) (variant.Front g v) =
    two_same (arc_str_bytes f) (arc_str_bytes w) (arc_str_bytes g) (arc_str_bytes v)

-- ---- after a sort and a `dedup`

abbrev same_keys : Key → Key → Bool
same_keys x y = is_same (key_of x) (key_of y)

all_mapped : (k : KeyValue) (xs : List Key) → AllByRecursion (λ y. key_cmp k (key_of y) ≡ Less) xs
    → AllByRecursion (λ l. key_cmp k l ≡ Less) (map key_of xs)
all_mapped k [] all = tt
all_mapped k (x ∷ xs) all = (all.0, all_mapped k xs all.1)

strict_mapped : (xs : List Key) → IsStrictlySortedBy (on key_of key_cmp) xs → IsStrictlySortedBy key_cmp (map key_of xs)
unfolding IsStrictlySortedBy
strict_mapped [] sorted = tt
strict_mapped (x ∷ xs) sorted = (all_mapped (key_of x) xs sorted.0, strict_mapped xs sorted.1)

-- of keys in order that are among others, as these are among them
deduped_keys : (xs ys zs : List Key)
    → ((k : KeyValue) → list_any (is_same k) (map key_of ys) ≡ list_any (is_same k) (map key_of xs))
    → IsSorted (on key_of key_cmp) ys → IsFiltered (DiffersFromLast key_eq.ghosts.eq) [] ys zs
    → map key_of zs ≡ in_order (map key_of xs)
deduped_keys xs ys zs among rising filtered =
    let equality : key_eq.ghosts.eq ≡ same_keys = λ i x y. key_equality x y i in
    let left : zs ≡ dedup same_keys ys =
    dedup_is same_keys ys zs
    (subst (λ (E : Key → Key → Bool). IsFiltered (DiffersFromLast E) [] ys zs) equality filtered) in
    let strict : IsStrictlySortedBy (on key_of key_cmp) (dedup same_keys ys) =
    IsStrictlySortedBy-dedup (on_total key_of key_cmp_total) (λ x y. refl) ys rising in
    ap (map key_of) left
    ∙ strict_keys key_cmp_total key_cmp_same (map key_of (dedup same_keys ys)) (map key_of xs)
    (strict_mapped (dedup same_keys ys) strict)
    (λ k. any_map (is_same k) key_of (dedup same_keys ys)
    ∙ any_deduped (eq_by_cmp_equiv (on_total key_of key_cmp_total)) key_of (λ x y. same_key (key_of x) (key_of y))
    (is_same k) ys ∙ sym (any_map (is_same k) key_of ys) ∙ among k)

pub sorted_keys : (xs ys zs : List Key) → IsPermutation xs ys → IsSorted key_ord.ghosts.cmp ys
    → IsFiltered (DiffersFromLast key_eq.ghosts.eq) [] ys zs → map key_of zs ≡ in_order (map key_of xs)
sorted_keys xs ys zs moved sorted =
    let order : key_ord.ghosts.cmp ≡ on key_of key_cmp = λ i x y. key_order x y i in
    deduped_keys xs ys zs
    (λ k. any_map (is_same k) key_of ys ∙ sym (list_any-IsPermutation (λ x. is_same k (key_of x)) xs ys moved)
    ∙ sym (any_map (is_same k) key_of xs))
    (subst (λ (C : Key → Key → Ordering). IsSorted C ys) order sorted)

-- keys in order as values, each once
pub sorted_values : (xs ys zs : List KeyValue) → IsPermutation xs ys → IsSorted key_cmp ys
    → IsFiltered (DiffersFromLast is_same) [] ys zs → zs ≡ in_order xs
sorted_values xs ys zs moved sorted filtered =
    let laws = eq_by_cmp_equiv key_cmp_total in
    dedup_is is_same ys zs filtered
    ∙ strict_keys key_cmp_total key_cmp_same (dedup is_same ys) xs
    (IsStrictlySortedBy-dedup key_cmp_total (λ x y. refl) ys sorted)
    (λ k. any_deduped laws (λ l. l) (λ x y. same_key x y) (is_same k) ys
    ∙ sym (list_any-IsPermutation (is_same k) xs ys moved))

-- ---- leads and lengths

-- short texts of one lead and one length are one
pub short_texts_tie : (xs ys : List ℕ) (m n short : ℕ) → IsLead xs m → IsLead ys n → m ≡ n → IsShortLength xs short
    → IsShortLength ys short → short ≤ 8 → Equal ≡ bytes_cmp xs ys
short_texts_tie xs ys m n short is_m is_n same is_short is_short_too few =
    leads_tie xs ys m n is_m is_n same (is_short few ∙ sym (is_short_too few))
    (omega (arith, is_short few, few))

-- so few need no sort
few_rise : (ks : List KeyValue) → length ks < 2 → IsStrictlySortedBy key_cmp ks
unfolding IsStrictlySortedBy
few_rise [] few = tt
few_rise (k ∷ []) few = (tt, tt)
few_rise (k ∷ l ∷ ks) few = absurd (omega arith)

pub few_keys : (xs : List Key) → length xs < 2 → map key_of xs ≡ in_order (map key_of xs)
few_keys xs few =
    let long = length-map xs key_of in
    strict_keys key_cmp_total key_cmp_same (map key_of xs) (map key_of xs)
    (few_rise (map key_of xs) (omega (arith, long))) (λ k. refl)
