-- Flags of a field's words: what raising them at postings makes of them, and the hits that are read off them.
use Rattle.std.proofs.Common.{◌≡◌, ℕ, zero, suc, ◌+◌, ◌<◌, ◌≤◌, Bool, true, false, cond, ◌&&◌, ◌||◌, List, [], ◌∷◌}
use Rattle.std.proofs.Common.{◌++◌, length, drop, map, filter, get_or, nat_eq, nat_le, nat_lt, bytes_eq, IsPermutation}
use Rattle.std.proofs.Common.{refl, sym, ap, ◌∙◌, arith, append-nil, Some, None}
use Rattle.std.specs.List.{list_any, flat_map, starts_with}
use Rattle.std.specs.Cmp.Lexicographic.{nat_list_eq_equiv}
use Rattle.std.proofs.lemmas.Bool.{eq-eqb, ne_eqb, leb-true, le-ltb}
use Rattle.std.proofs.lemmas.List.{drop_all}
use Rattle.std.proofs.lemmas.List.Sorted.{list_any-IsPermutation}
use Rattle.clip_grammar.specs.declared.query.Occur.{Occur}
use Rattle.clip_grammar.specs.declared.query.Query.{Query}
use Rattle.clip_grammar.specs.Tree.{clauses_of, tree_of}
use Rattle.clip_meaning.specs.Hits.{HitValue, asks, covers, is_named, is_named_by, is_within}
use Rattle.clip_meaning.specs.Index.{numbered}
use Rattle.memchr.specs.Find.{places_from}
use Rattle.clip_meaning.specs.Steps.Marks.{hit_at, is_up, is_within_run, raised, start_at}
use Rattle.clip_meaning.proofs.Numbered.{any_filter, rest_dropped}
use Rattle.clip_meaning.proofs.WordOrder.{Place}

-- ---- one flag, raised for each element of a list that passes

pub or-false : (a : Bool) → (a || false) ≡ a
or-false true = refl
or-false false = refl

-- all are read
pub raise_end : {X : Type 0} (t : X → Bool) (xs : List X) (i : ℕ) (a o : Bool) → length xs ≤ i
    → (a || list_any t (drop i xs)) ≡ o → a ≡ o
raise_end t xs i a o le inv = sym (or-false a) ∙ ap (λ ys. a || list_any t ys) (sym (drop_all i xs le)) ∙ inv

-- ---- the postings of words that pass

later_none : (t : List ℕ → Bool) (ws : List (List ℕ)) (m n : ℕ) → m < n
    → list_any (λ (p : Place). t p.0 && nat_eq m p.1) (numbered n ws) ≡ false
later_none t [] m n lt = refl
later_none t (w ∷ ws) m n lt =
    ap (λ b. (t w && b) || list_any (λ (p : Place). t p.0 && nat_eq m p.1) (numbered (n + 1) ws))
    (ne_eqb m n (λ e. omega (arith, e)))
    ∙ ap (λ b. b || list_any (λ (p : Place). t p.0 && nat_eq m p.1) (numbered (n + 1) ws)) (and-none (t w))
    ∙ later_none t ws m (n + 1) (omega arith)
  where
    and-none : (a : Bool) → (a && false) ≡ false
    and-none true = refl
    and-none false = refl

-- a word passes where the posting of its position does
pub at_numbered : (t : List ℕ → Bool) (ws : List (List ℕ)) (k n m : ℕ) → m ≡ n + k → k < length ws
    → list_any (λ (p : Place). t p.0 && nat_eq m p.1) (numbered n ws) ≡ t (get_or ws k [])
at_numbered t [] k n m is lt = absurd (omega arith)
at_numbered t (w ∷ ws) zero n m is lt =
    ap (λ b. (t w && b) || list_any (λ (p : Place). t p.0 && nat_eq m p.1) (numbered (n + 1) ws))
    (eq-eqb m n (omega (arith, is)))
    ∙ ap (λ b. (t w && true) || b) (later_none t ws m (n + 1) (omega (arith, is))) ∙ alone (t w)
  where
    alone : (a : Bool) → ((a && true) || false) ≡ a
    alone true = refl
    alone false = refl
at_numbered t (w ∷ ws) (suc k) n m is lt =
    ap (λ b. (t w && b) || list_any (λ (p : Place). t p.0 && nat_eq m p.1) (numbered (n + 1) ws))
    (ne_eqb m n (λ e. omega (arith, e, is)))
    ∙ ap (λ b. b || list_any (λ (p : Place). t p.0 && nat_eq m p.1) (numbered (n + 1) ws)) (none (t w))
    ∙ at_numbered t ws k (n + 1) m (omega (arith, is)) (omega arith)
  where
    none : (a : Bool) → (a && false) ≡ false
    none true = refl
    none false = refl

-- a test finds one among the postings of the words that pass where it finds one among all of these
pub found_among : (t : List ℕ → Bool) (test : Place → Bool) (ws : List (List ℕ)) (ps found : List Place)
    → IsPermutation (numbered 0 ws) ps → found ≡ filter (λ (p : Place). t p.0) ps
    → list_any test found ≡ list_any (λ (p : Place). t p.0 && test p) (numbered 0 ws)
found_among t test ws ps found same kept =
    ap (list_any test) kept ∙ any_filter (λ (p : Place). t p.0) test ps
    ∙ sym (list_any-IsPermutation (λ (p : Place). t p.0 && test p) (numbered 0 ws) ps same)

-- a position is among the postings of the words that pass where its word passes
pub passing_at : (t : List ℕ → Bool) (ws : List (List ℕ)) (ps found : List Place) (k : ℕ)
    → IsPermutation (numbered 0 ws) ps → found ≡ filter (λ (p : Place). t p.0) ps → k < length ws
    → list_any (λ (p : Place). nat_eq k p.1) found ≡ t (get_or ws k [])
passing_at t ws ps found k same kept lt =
    found_among t (λ (p : Place). nat_eq k p.1) ws ps found same kept ∙ at_numbered t ws k 0 k (omega arith) lt

-- ---- the postings of a phrase's first word

twice : (a b c d : Bool) → a ≡ b → (a && ((b && c) && d)) ≡ ((b && c) && d)
twice a true c d e = ap (λ x. x && (c && d)) e
twice a false c d e = ap (λ x. x && false) e

runs_numbered : (all ws fs : List (List ℕ)) (f : List ℕ) (k n : ℕ) → drop n all ≡ ws
    → list_any (λ (p : Place). bytes_eq p.0 f && covers all (f ∷ fs) k p.1) (numbered n ws)
    ≡ list_any (λ (p : Place). covers all (f ∷ fs) k p.1) (numbered n ws)
runs_numbered all [] fs f k n e = refl
runs_numbered all (w ∷ ws) fs f k n e =
    let there = is_within n (length (f ∷ fs)) k in
    let head : (bytes_eq w f && covers all (f ∷ fs) k n) ≡ covers all (f ∷ fs) k n =
    ap (λ xs. bytes_eq w f && (starts_with bytes_eq xs (f ∷ fs) && there)) e
    ∙ twice (bytes_eq w f) (bytes_eq f w) _ there (nat_list_eq_equiv.symm w f)
    ∙ sym (ap (λ xs. starts_with bytes_eq xs (f ∷ fs) && there) e) in
    ap (λ b. b || list_any (λ (p : Place). bytes_eq p.0 f && covers all (f ∷ fs) k p.1) (numbered (n + 1) ws)) head
    ∙ ap (λ b. covers all (f ∷ fs) k n || b) (runs_numbered all ws fs f k (n + 1) (rest_dropped n all w ws e))

-- they settle which positions a phrase covers, whose words g gives
pub runs_at_postings : {X : Type 0} (g : X
    → List ℕ) (all : List (List ℕ)) (phrase : List X) (x : X) (ps found : List Place) (k : ℕ) → 0 < length phrase
    → x ≡ get_or phrase 0 x → IsPermutation (numbered 0 all) ps → found ≡ filter (λ (p : Place). bytes_eq p.0 (g x)) ps
    → list_any (λ (p : Place). covers all (map g phrase) k p.1) found
    ≡ list_any (λ (p : Place). covers all (map g phrase) k p.1) (numbered 0 all)
runs_at_postings g all [] x ps found k lt is same kept = absurd (omega arith)
runs_at_postings g all (y ∷ ys) x ps found k lt is same kept =
    let f = g y in
    let fs = map g ys in
    ap (list_any (λ (p : Place). covers all (f ∷ fs) k p.1)) (kept
    ∙ ap (λ z. filter (λ (p : Place). bytes_eq p.0 (g z)) ps) is)
    ∙ any_filter (λ (p : Place). bytes_eq p.0 f) (λ (p : Place). covers all (f ∷ fs) k p.1) ps
    ∙ sym (list_any-IsPermutation (λ (p : Place). bytes_eq p.0 f && covers all (f ∷ fs) k p.1) (numbered 0 all) ps same)
    ∙ runs_numbered all all fs f k 0 refl

-- an empty phrase covers nothing
pub within_none : (start k : ℕ) → is_within start 0 k ≡ false
within_none start k = by_start (nat_le start k) refl
  where
    by_start : (b : Bool) → nat_le start k ≡ b → (b && nat_lt k (start + 0)) ≡ false
    by_start true e = le-ltb k (start + 0) (omega (arith, leb-true start k e))
    by_start false e = refl

pub empty_covers : (all : List (List ℕ)) (k : ℕ) (ps : List Place) → list_any (λ (p : Place). covers all [] k p.1) ps
    ≡ false
empty_covers all k [] = refl
empty_covers all k (p ∷ ps) =
    (λ i. (starts_with bytes_eq (drop p.1 all) [] && within_none p.1 k i) || empty_covers all k ps i)
    ∙ none (starts_with bytes_eq (drop p.1 all) [])
  where
    none : (a : Bool) → ((a && false) || false) ≡ false
    none true = refl
    none false = refl

-- a phrase covers a position from where it starts, if it begins there
pub covers_from_start : (words phrase : List (List ℕ)) (k start : ℕ)
    → is_within_run (start_at words phrase start) (length phrase) k ≡ covers words phrase k start
covers_from_start words phrase k start = by_test (starts_with bytes_eq (drop start words) phrase)
  where
    by_test : (b : Bool) → is_within_run (cond b (Some start) None) (length phrase) k
        ≡ (b && is_within start (length phrase) k)
    by_test true = refl
    by_test false = refl

-- ---- groups

abbrev pub asked : (List ℕ × List (List ℕ)) → ℕ → Occur × Query → Bool
asked field k c = asks c.0 && is_named (tree_of c.1) field.0 field.1 (get_or field.1 k [], k)

pub named_by : (field : List ℕ × List (List ℕ)) (k : ℕ) (cs : List (Occur × Query))
    → list_any (asked field k) cs
    ≡ is_named_by (clauses_of (map (λ c. (c.0, tree_of c.1)) cs)) field.0 field.1 (get_or field.1 k [], k)
named_by field k [] = refl
named_by field k (c ∷ cs) = ap (λ b. asked field k c || b) (named_by field k cs)

-- ---- hits

-- the flags that are up from a position on give the words that pass
raised_from : (t : Place → Bool) (name : List ℕ) (ws : List (List ℕ)) (flags : List ℕ) (n : ℕ)
    → ((k : ℕ) → k < length ws → is_up (get_or flags (n + k) 0) ≡ t (get_or ws k [], n + k))
    → map (hit_at name) (places_from is_up flags n (length ws))
    ≡ map (λ (w : Place). (name, w.1)) (filter t (numbered n ws))
unfolding places_from
raised_from t name [] flags n up = refl
raised_from t name (w ∷ ws) flags n up =
    let rest : map (hit_at name) (places_from is_up flags (n + 1) (length ws))
    ≡ map at (filter t (numbered (n + 1) ws)) =
    raised_from t name ws flags (n + 1) (λ k lt. ap (λ (m : ℕ). is_up (get_or flags m 0)) (omega arith)
    ∙ up (suc k) (omega arith) ∙ ap (λ (m : ℕ). t (get_or ws k [], m)) (omega arith)) in
    let here : is_up (get_or flags n 0) ≡ t (w, n) = ap (λ (m : ℕ). is_up (get_or flags m 0)) (omega arith)
    ∙ up 0 (omega arith) ∙ ap (λ (m : ℕ). t (w, m)) (omega arith) in
    ap (λ b. map (hit_at name)
    (cond b (n ∷ places_from is_up flags (n + 1) (length ws)) (places_from is_up flags (n + 1) (length ws)))) here
    ∙ by_test (t (w, n)) rest
  where
    at : Place → HitValue
    at p = (name, p.1)

    by_test : (b : Bool) → map (hit_at name) (places_from is_up flags (n + 1) (length ws))
        ≡ map at (filter t (numbered (n + 1) ws))
        → map (hit_at name) (cond b (n ∷ places_from is_up flags (n + 1) (length ws))
        (places_from is_up flags (n + 1) (length ws)))
        ≡ map at (cond b ((w, n) ∷ filter t (numbered (n + 1) ws)) (filter t (numbered (n + 1) ws)))
    by_test true e = ap (λ hs. (name, n) ∷ hs) e
    by_test false e = e

-- the flags that are up give the words that pass
pub raised_hits : (t : Place → Bool) (name : List ℕ) (ws : List (List ℕ)) (flags : List ℕ) → length flags ≡ length ws
    → ((k : ℕ) → k < length ws → is_up (get_or flags k 0) ≡ t (get_or ws k [], k))
    → raised name flags ≡ map (λ (w : Place). (name, w.1)) (filter t (numbered 0 ws))
raised_hits t name ws flags long up = ap (λ n. map (hit_at name) (places_from is_up flags 0 n)) (omega (arith, long))
    ∙ raised_from t name ws flags 0 (λ k lt. ap (λ (m : ℕ). is_up (get_or flags m 0)) (omega arith) ∙ up k lt
    ∙ ap (λ (m : ℕ). t (get_or ws k [], m)) (omega arith))

-- ---- fields

-- all are read
pub fields_end : {X Y : Type 0} (f : X → List Y) (xs : List X) (i : ℕ) (cur all : List Y) → length xs ≤ i
    → cur ++ flat_map f (drop i xs) ≡ all → cur ≡ all
fields_end f xs i cur all le inv = sym (append-nil cur) ∙ ap (λ ys. cur ++ flat_map f ys) (sym (drop_all i xs le)) ∙ inv
