-- Places in a list that lies in pieces.
use Rattle.std.proofs.Common.{◌≡◌, ℕ, zero, suc, ◌+◌, ◌-◌, ◌*◌, ◌/◌, ◌%◌, ◌<◌, ◌≤◌, List, [], ◌∷◌, ◌++◌, map, length}
use Rattle.std.proofs.Common.{get_or, slice_get, Result, Ok, Err, OnOk, OnErr, refl, sym, ap, ◌∙◌, subst, arith}
use Rattle.std.proofs.Common.{append_assoc, append-nil, length-append, inl, inr}
use Rattle.std.specs.Option.{option_and_then}
use Rattle.std.proofs.Math.ListN.{set, get_or-map}
use Rattle.std.proofs.Math.Nat.{div-add-mod', mod-lt, mod-eq_of_lt, mod-eq-sub-mod, mod_self, zero-mod}
use Rattle.std.proofs.Math.Seq.{map-set_same}
use Rattle.std.proofs.lemmas.Bool.{cases_lt}
use Rattle.std.proofs.lemmas.Option.{slice_get_past, slice_get-get_or}
use Rattle.std.proofs.lemmas.List.{set-append_left, set-append_right, length-set, length-map, map-set, map-append}
use Rattle.std.proofs.lemmas.List.{get_or_read}
use Rattle.clip_pieces.specs.Pieces.{joined, AreFilled}

module _ {A : Type 0} where
  slice_get-left : (xs ys : List A) (i : ℕ) → i < length xs → slice_get (xs ++ ys) i ≡ slice_get xs i
  slice_get-left [] ys i h = absurd (omega arith)
  slice_get-left (x ∷ xs) ys zero h = refl
  slice_get-left (x ∷ xs) ys (suc i) h = slice_get-left xs ys i (omega arith)

  slice_get-right : (xs ys : List A) (i j : ℕ) → i ≡ length xs + j → slice_get (xs ++ ys) i ≡ slice_get ys j
  slice_get-right [] ys i j e = ap (slice_get ys) (omega arith)
  slice_get-right (x ∷ xs) ys zero j e = absurd (omega arith)
  slice_get-right (x ∷ xs) ys (suc i) j e = slice_get-right xs ys i j (omega arith)

  pub joined-append : (xss yss : List (List A)) → joined (xss ++ yss) ≡ joined xss ++ joined yss
  joined-append [] yss = refl
  joined-append (xs ∷ xss) yss = ap (λ r. xs ++ r) (joined-append xss yss)
      ∙ sym (append_assoc xs (joined xss) (joined yss))

  -- the item at place `r` of piece `k`
  get_at : (n : ℕ) (xss : List (List A)) (k r : ℕ) → r < n → AreFilled n xss → slice_get (joined xss) (k * n + r)
      ≡ option_and_then (λ xs. slice_get xs r) (slice_get xss k)
  get_at n [] k r h filled = refl
  get_at n (xs ∷ []) zero r h filled = ap (slice_get (xs ++ [])) (omega arith) ∙ ap (λ l. slice_get l r) (append-nil xs)
  get_at n (xs ∷ []) (suc k) r h filled = slice_get_past (xs ++ []) (suc k * n + r) (omega (arith, length-append xs []))
  get_at n (xs ∷ ys ∷ yss) zero r h filled = ap (slice_get (xs ++ joined (ys ∷ yss))) (omega arith)
      ∙ slice_get-left xs (joined (ys ∷ yss)) r (omega arith)
  get_at n (xs ∷ ys ∷ yss) (suc k) r h filled =
      slice_get-right xs (joined (ys ∷ yss)) (suc k * n + r) (k * n + r) (omega arith)
      ∙ get_at n (ys ∷ yss) k r h filled.1

  pub get_joined : (n : ℕ) (xss : List (List A)) (i : ℕ) → 0 < n → AreFilled n xss
      → slice_get (joined xss) i ≡ option_and_then (λ xs. slice_get xs (i % n)) (slice_get xss (i / n))
  get_joined n xss i pos filled = ap (slice_get (joined xss)) (sym (div-add-mod' i n))
      ∙ get_at n xss (i / n) (i % n) (mod-lt i pos) filled

  -- a place within the list is a place within its piece
  pub within_at : (n : ℕ) (xss : List (List A)) (k r : ℕ) → r < n → AreFilled n xss → k * n + r < length (joined xss)
      → (k < length xss) × (r < length (get_or xss k []))
  within_at n [] k r h filled l = absurd (omega arith)
  within_at n (xs ∷ []) zero r h filled l = (omega arith, omega (arith, length-append xs []))
  within_at n (xs ∷ []) (suc k) r h filled l = absurd (omega (arith, length-append xs []))
  within_at n (xs ∷ ys ∷ yss) zero r h filled l = (omega arith, omega arith)
  within_at n (xs ∷ ys ∷ yss) (suc k) r h filled l =
      let rest = within_at n (ys ∷ yss) k r h filled.1 (omega (arith, length-append xs (joined (ys ∷ yss)))) in
      (omega arith, rest.1)

  pub within : (n : ℕ) (xss : List (List A)) (i : ℕ) → 0 < n → AreFilled n xss → i < length (joined xss)
      → (i / n < length xss) × (i % n < length (get_or xss (i / n) []))
  within n xss i pos filled l = within_at n xss (i / n) (i % n) (mod-lt i pos) filled (omega (arith, div-add-mod' i n))

  -- another item at place `r` of piece `k`
  set_at : (n : ℕ) (xss : List (List A)) (k r : ℕ) (v : A) → r < n → AreFilled n xss → k * n + r < length (joined xss)
      → joined (set xss k (set (get_or xss k []) r v)) ≡ set (joined xss) (k * n + r) v
  set_at n [] k r v h filled l = absurd (omega arith)
  set_at n (xs ∷ []) zero r v h filled l = append-nil (set xs r v) ∙ ap (λ s. set s r v) (sym (append-nil xs))
      ∙ ap (λ i. set (xs ++ []) i v) (omega arith)
  set_at n (xs ∷ []) (suc k) r v h filled l = absurd (omega (arith, length-append xs []))
  set_at n (xs ∷ ys ∷ yss) zero r v h filled l =
      sym (set-append_left xs (joined (ys ∷ yss)) r v (omega arith))
      ∙ ap (λ i. set (xs ++ joined (ys ∷ yss)) i v) (omega arith)
  set_at n (xs ∷ ys ∷ yss) (suc k) r v h filled l =
      ap (λ s. xs ++ s) (set_at n (ys ∷ yss) k r v h filled.1 (omega (arith, length-append xs (joined (ys ∷ yss)))))
      ∙ ap (λ i. xs ++ set (joined (ys ∷ yss)) i v) (omega arith)
      ∙ sym (set-append_right xs (joined (ys ∷ yss)) n (suc k * n + r) v filled.0 (omega arith))

  pub set_joined : (n : ℕ) (xss : List (List A)) (i : ℕ) (v : A) → 0 < n → AreFilled n xss → i < length (joined xss)
      → joined (set xss (i / n) (set (get_or xss (i / n) []) (i % n) v)) ≡ set (joined xss) i v
  set_joined n xss i v pos filled l =
      set_at n xss (i / n) (i % n) v (mod-lt i pos) filled (omega (arith, div-add-mod' i n))
      ∙ ap (λ j. set (joined xss) j v) (div-add-mod' i n)

  -- a piece of the same length in the place of another
  pub filled_set : (n : ℕ) (xss : List (List A)) (k : ℕ) (xs : List A) → length xs ≡ length (get_or xss k [])
      → AreFilled n xss → AreFilled n (set xss k xs)
  filled_set n [] k xs e filled = filled
  filled_set n (ys ∷ []) zero xs e filled = (omega arith, omega arith)
  filled_set n (ys ∷ []) (suc k) xs e filled = filled
  filled_set n (ys ∷ zs ∷ zss) zero xs e filled = (omega arith, filled.1)
  filled_set n (ys ∷ zs ∷ zss) (suc zero) xs e filled = (filled.0, filled_set n (zs ∷ zss) zero xs e filled.1)
  filled_set n (ys ∷ zs ∷ zss) (suc (suc k)) xs e filled = (filled.0, filled_set n (zs ∷ zss) (suc k) xs e filled.1)

  -- the length of full pieces
  full_more : (n : ℕ) (xs ys : List A) → length xs ≡ n → length (xs ++ ys) % n ≡ length ys % n
  full_more n xs ys e =
      ap (λ l. l % n) (length-append xs ys) ∙ mod-eq-sub-mod {n = length xs + length ys} {m = n} (omega arith)
      ∙ ap (λ l. l % n) (omega arith)

  -- one more piece of one item, behind full pieces
  pub filled_more : (n : ℕ) (xss : List (List A)) (v : A) → 0 < n → AreFilled n xss → length (joined xss) % n ≡ 0
      → AreFilled n (xss ++ (v ∷ []) ∷ [])
  filled_more n [] v pos filled e = (omega arith, omega arith)
  filled_more n (xs ∷ []) v pos filled e = elim (cases_lt (length xs) n) [
    | inl few ↦ absurd (let same : length (xs ++ []) % n ≡ length xs =
        ap (λ l. l % n) (omega (arith, length-append xs [])) ∙ mod-eq_of_lt few in omega (arith, same, filled.0))
    | inr all ↦ ((omega arith), (omega arith, omega arith))
  ]
  filled_more n (xs ∷ ys ∷ yss) v pos filled e =
      (filled.0, filled_more n (ys ∷ yss) v pos filled.1 (sym (full_more n xs (joined (ys ∷ yss)) filled.0) ∙ e))

  -- a full piece before others
  filled_before : (n : ℕ) (xs ys : List A) (yss : List (List A)) (k : ℕ) (zs : List A) → length xs ≡ n
      → AreFilled n (set (ys ∷ yss) k zs) → AreFilled n (xs ∷ set (ys ∷ yss) k zs)
  filled_before n xs ys yss zero zs e filled = (e, filled)
  filled_before n xs ys yss (suc k) zs e filled = (e, filled)

  -- one more item in a last piece that is not full
  pub last_more : (n : ℕ) (xss : List (List A)) (k : ℕ) (v : A) → AreFilled n xss → (length (joined xss) % n ≡ 0 → ⊥)
      → k + 1 ≡ length xss
      → AreFilled n (set xss k (get_or xss k [] ++ v ∷ []))
      × (joined (set xss k (get_or xss k [] ++ v ∷ [])) ≡ joined xss ++ v ∷ [])
  last_more n [] k v filled e last = absurd (omega arith)
  last_more n (xs ∷ []) zero v filled e last = elim (cases_lt (length xs) n) [
    | inl few ↦ (
      (omega (arith, length-append xs (v ∷ [])), omega (arith, length-append xs (v ∷ []))),
      append-nil (xs ++ v ∷ []) ∙ ap (λ s. s ++ v ∷ []) (sym (append-nil xs)),
    )
    | inr all ↦ absurd (e (ap (λ l. l % n) (let same : length (xs ++ []) ≡ n =
        omega (arith, length-append xs [], filled.1) in same) ∙ mod_self n))
  ]
  last_more n (xs ∷ []) (suc k) v filled e last = absurd (omega arith)
  last_more n (xs ∷ ys ∷ yss) zero v filled e last = absurd (omega arith)
  last_more n (xs ∷ ys ∷ yss) (suc k) v filled e last =
      let rest = last_more n (ys ∷ yss) k v filled.1 (λ z. e (full_more n xs (joined (ys ∷ yss)) filled.0 ∙ z))
      (omega arith) in (
        filled_before n xs ys yss k (get_or (ys ∷ yss) k [] ++ v ∷ []) filled.0 rest.0,
        ap (λ s. xs ++ s) rest.1 ∙ sym (append_assoc xs (joined (ys ∷ yss)) (v ∷ [])),
      )

module _ {P A : Type 0} (items : P → List A) (n : ℕ) (ps : List P) where
  -- the items of the part at a place
  part_at : (k : ℕ) (p : P) → k < length ps → p ≡ get_or ps k p → items p ≡ get_or (map items ps) k []
  part_at k p l is = get_or_read (map items ps) k (items p) (omega (arith, length-map ps items)) (ap items is
      ∙ sym (get_or-map items ps k p)) []

  pub part_within : (i : ℕ) → 0 < n → AreFilled n (map items ps) → i < length (joined (map items ps))
      → i / n < length ps
  part_within i pos filled l = omega (arith, (within n (map items ps) i pos filled l).0, length-map ps items)

  pub place_within : (i : ℕ) (p : P) → 0 < n → AreFilled n (map items ps) → i < length (joined (map items ps))
      → p ≡ get_or ps (i / n) p → i % n < length (items p)
  place_within i p pos filled l is =
      rw (part_at (i / n) p (part_within i pos filled l) is) (within n (map items ps) i pos filled l).1

  pub get_part : (i : ℕ) (p : P) → 0 < n → AreFilled n (map items ps) → i < length (joined (map items ps))
      → p ≡ get_or ps (i / n) p
      → slice_get (items p) (i % n) ≡ slice_get (joined (map items ps)) i
  get_part i p pos filled l is =
      ap (λ xs. slice_get xs (i % n)) (part_at (i / n) p (part_within i pos filled l) is)
      ∙ ap (option_and_then (λ xs. slice_get xs (i % n)))
      (sym (slice_get-get_or (map items ps) (i / n) [] (within n (map items ps) i pos filled l).0))
      ∙ sym (get_joined n (map items ps) i pos filled)

  -- what the fields of a list in parts hold
  abbrev pub IsInside : ℕ → Type 0
  IsInside len = AreFilled n (map items ps) × (len ≡ length (joined (map items ps)))

-- a list of length 0
empty_of : {X : Type 0} (xs : List X) → length xs ≤ 0 → xs ≡ []
empty_of [] none = refl
empty_of (x ∷ xs) none = absurd (omega arith)

module _ {P A : Type 0} (items : P → List A) (n : ℕ) (ps : List P) (len : ℕ) (inside : IsInside items n ps len) where
  -- a part of the same items in the place of another
  pub same_part : (k : ℕ) (p q : P) → p ≡ get_or ps k p → items q ≡ items p → IsInside items n (set ps k q) len
      × (joined (map items (set ps k q)) ≡ joined (map items ps))
  same_part k p q is e =
      let same : map items (set ps k q) ≡ map items ps = map-set_same items ps k q p (e ∙ ap items is) in
      ((subst (AreFilled n) (sym same) inside.0, inside.1 ∙ ap (λ xss. length (joined xss)) (sym same)), ap joined same)

  pub set_part : (i : ℕ) (p q : P) (v : A) → 0 < n → i < length (joined (map items ps)) → p ≡ get_or ps (i / n) p
      → items q ≡ set (items p) (i % n) v
      → IsInside items n (set ps (i / n) q) len
      × (joined (map items (set ps (i / n) q)) ≡ set (joined (map items ps)) i v)
  set_part i p q v pos l is e =
      let at = part_at items n ps (i / n) p (part_within items n ps i pos inside.0 l) is in
      let set_to : items q ≡ set (get_or (map items ps) (i / n) []) (i % n) v = e ∙ ap (λ xs. set xs (i % n) v) at in
      let parts : map items (set ps (i / n) q)
      ≡ set (map items ps) (i / n) (set (get_or (map items ps) (i / n) []) (i % n) v) =
      map-set items ps (i / n) q ∙ ap (set (map items ps) (i / n)) set_to in
      let all : joined (map items (set ps (i / n) q)) ≡ set (joined (map items ps)) i v =
      ap joined parts ∙ set_joined n (map items ps) i v pos inside.0 l in (
        (
          subst (AreFilled n) (sym parts)
              (filled_set n (map items ps) (i / n) (set (get_or (map items ps) (i / n) []) (i % n) v)
              (length-set (get_or (map items ps) (i / n) []) (i % n) v) inside.0),
          inside.1 ∙ sym (length-set (joined (map items ps)) i v) ∙ ap length (sym all),
        ),
        all,
      )

  pub set_or_same : {T E : Type 0} (r : Result T E) (i : ℕ) (p q : P) (v : A) → 0 < n
      → i < length (joined (map items ps)) → p ≡ get_or ps (i / n) p
      → OnOk r (items q ≡ set (items p) (i % n) v) → OnErr r (items q ≡ items p)
      → IsInside items n (set ps (i / n) q) len
  set_or_same (Ok t) i p q v pos l is ok err = (set_part i p q v pos l is ok).0
  set_or_same (Err e) i p q v pos l is ok err = (same_part (i / n) p q is err).0

  no_items : length ps ≤ 0 → length (joined (map items ps)) ≡ 0
  no_items none = rw (empty_of ps none) refl

  one_more : (qs : List P) (v : A) → joined (map items qs) ≡ joined (map items ps) ++ v ∷ []
      → len + 1 ≡ length (joined (map items qs))
  one_more qs v e = rw e (omega (arith, length-append (joined (map items ps)) (v ∷ []), inside.1))

  -- an item that is not the first of its part has parts before it
  pub some_parts : (len % n ≡ 0 → ⊥) → 0 < length ps
  some_parts some = elim (cases_lt 0 (length ps)) [
    | inl more ↦ more
    | inr none ↦ absurd (some (let none_left : len ≡ 0 = inside.1 ∙ no_items none in
        ap (λ l. l % n) none_left ∙ zero-mod n))
  ]

  -- another item behind those of the last of so many parts
  pub last_part : (count : ℕ) (p q : P) (v : A) → (len % n ≡ 0 → ⊥) → count ≡ length ps → p ≡ get_or ps (count - 1) p
      → items q ≡ items p ++ v ∷ []
      → IsInside items n (set ps (count - 1) q) (len + 1)
      × (joined (map items (set ps (count - 1) q)) ≡ joined (map items ps) ++ v ∷ [])
  last_part count p q v some counted is e =
      let k = count - 1 in
      let last : k + 1 ≡ length ps = omega (arith, some_parts some, counted) in
      let at = part_at items n ps k p (omega (arith, last)) is in
      let parts : map items (set ps k q) ≡ set (map items ps) k (get_or (map items ps) k [] ++ v ∷ []) =
      map-set items ps k q ∙ ap (set (map items ps) k) (e ∙ ap (λ xs. xs ++ v ∷ []) at) in
      let more = last_more n (map items ps) k v inside.0 (λ z. some (ap (λ l. l % n) inside.1 ∙ z))
      (omega (arith, last, length-map ps items)) in
      let all = ap joined parts ∙ more.1 in
      ((subst (AreFilled n) (sym parts) more.0, one_more (set ps k q) v all), all)

  pub new_part : (q : P) (v : A) → 0 < n → len % n ≡ 0 → items q ≡ v ∷ []
      → IsInside items n (ps ++ q ∷ []) (len + 1)
      × (joined (map items (ps ++ q ∷ [])) ≡ joined (map items ps) ++ v ∷ [])
  new_part q v pos full e =
      let parts : map items (ps ++ q ∷ []) ≡ map items ps ++ (v ∷ []) ∷ [] =
      map-append items ps (q ∷ []) ∙ ap (λ xs. map items ps ++ xs ∷ []) e in
      let all = ap joined parts ∙ joined-append (map items ps) ((v ∷ []) ∷ []) in (
        (
          subst (AreFilled n) (sym parts) (filled_more n (map items ps) v pos inside.0 (ap (λ l. l % n) (sym inside.1)
              ∙ full)),
          one_more (ps ++ q ∷ []) v all,
        ),
        all,
      )

-- what holds at an error alone
pub on_err_weaker : {T E X Y : Type 0} (r : Result T E) → (X → Y) → OnErr r X → OnErr r Y
on_err_weaker (Ok t) f x = tt
on_err_weaker (Err e) f x = f x

pub error_only : {T E X : Type 0} (r : Result T E) → X → OnErr r X
error_only (Ok t) x = tt
error_only (Err e) x = x

-- the place before the end
pub before_end : (n m : ℕ) → n ≡ m → 0 < m → n - 1 < m
before_end n m same some = omega arith
