-- A plan names the words that its query names.
use Rattle.std.proofs.Common.{◌≡◌, ℕ, zero, suc, ◌+◌, ◌-◌, ◌<◌, ◌≤◌, ◌==◌, Bool, true, false, cond, ◌&&◌, ◌||◌, List}
use Rattle.std.proofs.Common.{[], ◌∷◌, ◌++◌, map, filter, length, take, drop, get_or, bytes_eq, refl, sym, ap, ◌∙◌}
use Rattle.std.proofs.Common.{arith, ne_eqb, append-nil}
use Rattle.std.specs.Prelude.{Result, Ok, Err, OnOk}
use Rattle.std.specs.Cmp.{eq_by_cmp_equiv}
use Rattle.std.specs.List.{list_any, starts_with, flat_map}
use Rattle.std.proofs.lemmas.List.Concat.{flat_map-append}
use Rattle.std.proofs.lemmas.List.{length-map, drop-map, drop_more, drop_all, get_or-map, take_more}
use Rattle.std.proofs.lemmas.Slice.Eq.{bytes_eq-Decides}
use Rattle.clip_grammar.proofs.Booleans.{same_answer}
use Rattle.clip_grammar.specs.Tree.{Tree, Clauses, none, clause}
use Rattle.clip_grammar.specs.declared.query.Occur.{Occur}
use Rattle.clip_grammar.specs.declared.query.Occur.TheVariants.{Must, Should}
use Rattle.clip_meaning.specs.Hits.{asks, covers, hits_in, is_named, is_named_by, is_within}
use Rattle.clip_meaning.specs.Index.{numbered}
use Rattle.clip_extract.specs.Keys.{KeyValue, Word, is_same}
use Rattle.clip_extract.proofs.Order.{key_cmp_total}
use Rattle.clip_terms.specs.Spots.{FieldValue, covers_from, is_covered, is_word_of}
use Rattle.clip_terms.proofs.Spotted.{at_word, none_covered, not_its_word}
use Rattle.clip_plan.specs.Plan.{Mark, Leaf, Open, Close, clause_marks, group_marks, plan_of}
use Rattle.clip_plan.specs.declared.step.Step.{Step}
use Rattle.clip_plan.specs.Steps.Judging.{meant}
use Rattle.clip_plan.specs.Steps.Naming.{excluded_before, excluded_at, mark_asks, mark_names, step_names, marks_name}
use Rattle.clip_plan.proofs.AskedKeys.{begins_same}

-- ---- tests

or_false : (b : Bool) → (b || false) ≡ b
or_false true = refl
or_false false = refl

or_assoc : (a b c : Bool) → ((a || b) || c) ≡ (a || (b || c))
or_assoc true b c = refl
or_assoc false b c = refl

none_of : {A : Type 0} (t : A → Bool) (xs : List A) → ((x : A) → t x ≡ false) → list_any t xs ≡ false
none_of t [] fails = refl
none_of t (x ∷ xs) fails = (λ i. fails x i || none_of t xs fails i)

-- ---- a run whose first key is of no word in fields of a name

-- the words of such a field begin with no such run
other_begins : (name : List ℕ) (key : KeyValue) (run : List KeyValue) (words : List (List ℕ))
    → is_word_of name key ≡ false → starts_with is_same (map (Word name) words) (key ∷ run) ≡ false
other_begins name key run [] other = refl
other_begins name key run (w ∷ words) other =
    ap (λ b. b && starts_with is_same (map (Word name) words) run)
    ((eq_by_cmp_equiv key_cmp_total).symm key (Word name w) ∙ not_its_word name key other w)

-- it covers no position of one
pub other_covered : (field : FieldValue) (key : KeyValue) (run : List KeyValue) (k : ℕ)
    → is_word_of field.0 key ≡ false → is_covered field (key ∷ run) k ≡ false
other_covered field key run k other =
    none_of (λ (p : List ℕ × ℕ). covers_from field (key ∷ run) k p.1) (numbered 0 field.1) (λ p.
    ap (λ xs. starts_with is_same xs (key ∷ run) && is_within p.1 (length (key ∷ run)) k)
    (drop-map (Word field.0) p.1 field.1)
    ∙ ap (λ b. b && is_within p.1 (length (key ∷ run)) k)
    (other_begins field.0 key run (drop p.1 field.1) other))

-- ---- a phrase

apart : (f g w v : List ℕ) → bytes_eq f g ≡ false → is_same (Word f w) (Word g v) ≡ false
apart f g w v differ = at_word f w g v ∙ ap (λ b. b && bytes_eq w v) (turned_eq f g ∙ differ)
  where
    turned_eq : (x y : List ℕ) → bytes_eq y x ≡ bytes_eq x y
    turned_eq x y = same_answer _ _ (λ t. (bytes_eq-Decides x y).1 (sym ((bytes_eq-Decides y x).0 t)))
        (λ t. (bytes_eq-Decides y x).1 (sym ((bytes_eq-Decides x y).0 t)))

begins_apart : (f g p : List ℕ) (ps vs : List (List ℕ)) → bytes_eq f g ≡ false
    → starts_with is_same (map (Word g) vs) (map (Word f) (p ∷ ps)) ≡ false
begins_apart f g p ps [] differ = refl
begins_apart f g p ps (v ∷ vs) differ =
    ap (λ b. b && starts_with is_same (map (Word g) vs) (map (Word f) ps)) (apart f g p v differ)

covered_apart : (field : FieldValue) (f : List ℕ) (phrase : List (List ℕ)) (k : ℕ) → bytes_eq f field.0 ≡ false
    → is_covered field (map (Word f) phrase) k ≡ false
covered_apart field f [] k differ = none_covered field k
covered_apart field f (p ∷ ps) k differ =
    none_of (λ (s : List ℕ × ℕ). covers_from field (map (Word f) (p ∷ ps)) k s.1) (numbered 0 field.1)
    (λ s. ap (λ xs. starts_with is_same xs (map (Word f) (p ∷ ps)) && is_within s.1 (length (map (Word f) (p ∷ ps))) k)
    (drop-map (Word field.0) s.1 field.1)
    ∙ ap (λ b. b && is_within s.1 (length (map (Word f) (p ∷ ps))) k)
    (begins_apart f field.0 p ps (drop s.1 field.1) differ))

covers_same : (name : List ℕ) (words phrase : List (List ℕ)) (k start : ℕ)
    → covers_from (name, words) (map (Word name) phrase) k start ≡ covers words phrase k start
covers_same name words phrase k start =
    ap (λ xs. starts_with is_same xs (map (Word name) phrase) && is_within start (length (map (Word name) phrase)) k)
    (drop-map (Word name) start words)
    ∙ (λ i. begins_same name (drop start words) phrase i && is_within start (length-map phrase (Word name) i) k)

-- the phrase's keys cover what the phrase covers in a field of its name
covered_phrase : (field : FieldValue) (f : List ℕ) (phrase : List (List ℕ)) (k : ℕ)
    → is_covered field (map (Word f) phrase) k
    ≡ (bytes_eq f field.0 && list_any (λ start. covers field.1 phrase k start.1) (numbered 0 field.1))
covered_phrase field f phrase k = by_name (bytes_eq f field.0) refl
  where
    by_name : (b : Bool) → bytes_eq f field.0 ≡ b → is_covered field (map (Word f) phrase) k
        ≡ (b && list_any (λ start. covers field.1 phrase k start.1) (numbered 0 field.1))
    by_name true same =
        ap (λ g. is_covered field (map (Word g) phrase) k) ((bytes_eq-Decides f field.0).0 same)
        ∙ (λ i. list_any (λ (s : List ℕ × ℕ). covers_same field.0 field.1 phrase k s.1 i) (numbered 0 field.1))
    by_name false differ = covered_apart field f phrase k differ

-- ---- groups

excluded_append : (xs ys : List (Mark KeyValue)) (e : ℕ) → excluded_at (xs ++ ys) e ≡ excluded_at xs (excluded_at ys e)
excluded_append [] ys e = refl
excluded_append (x ∷ xs) ys e = ap (excluded_before x) (excluded_append xs ys e)

-- what a group's end adds, its beginning takes away
opened : (b : Bool) (e : ℕ) → cond (b && e == 0) 0 (e + 1) - 1 ≡ e
opened false e = omega arith
opened true zero = refl
opened true (suc e) = ap (λ t. cond t 0 (suc e + 1) - 1) (ne_eqb (suc e) 0 (λ eq. absurd (omega (arith, eq))))
    ∙ omega arith

closed : (b : Bool) (e : ℕ) → (cond (b && e == 0) 0 (e + 1) == 0) ≡ (b && e == 0)
closed b e = by_test (b && e == 0)
  where
    by_test : (t : Bool) → (cond t 0 (e + 1) == 0) ≡ t
    by_test true = refl
    by_test false = ne_eqb (e + 1) 0 (λ eq. absurd (omega (arith, eq)))

mutual
  clause_balanced : (occur : Occur) (tree : Tree) (e : ℕ) → excluded_at (clause_marks occur tree) e ≡ e
  clause_balanced occur (Tree.Term field word) e = refl
  clause_balanced occur (Tree.Phrase field words) e = refl
  clause_balanced occur (Tree.Prefix field front) e = refl
  clause_balanced occur (Tree.Span field low high) e = refl
  clause_balanced occur Tree.All e = refl
  clause_balanced occur (Tree.Group (clause Must child none)) e = clause_balanced occur child e
  clause_balanced occur (Tree.Group (clause Should child none)) e = clause_balanced occur child e
  clause_balanced occur (Tree.Group clauses) e =
      ap (λ n. n - 1) (excluded_append (group_marks clauses) (Close occur ∷ []) e
      ∙ group_balanced clauses (excluded_before {K = KeyValue} (Close occur) e)) ∙ opened (asks occur) e

  group_balanced : (clauses : Clauses) (e : ℕ) → excluded_at (group_marks clauses) e ≡ e
  group_balanced none e = refl
  group_balanced (clause occur child others) e =
      excluded_append (clause_marks occur child) (group_marks others) e
      ∙ clause_balanced occur child (excluded_at (group_marks others) e) ∙ group_balanced others e

-- ---- what marks name

module _ (field : FieldValue) (k : ℕ) where
  name_append : (xs ys : List (Mark KeyValue)) (e : ℕ) → marks_name field k (xs ++ ys) e
      ≡ (marks_name field k xs (excluded_at ys e) || marks_name field k ys e)
  name_append [] ys e = refl
  name_append (x ∷ xs) ys e =
      (λ i. step_names field k x (excluded_append xs ys e i) || name_append xs ys e i)
      ∙ sym (or_assoc (step_names field k x (excluded_at xs (excluded_at ys e)))
      (marks_name field k xs (excluded_at ys e)) (marks_name field k ys e))

  abbrev word : List ℕ × ℕ
  word = (get_or field.1 k [], k)

  one_more : (z a n r : Bool) → (((a && z) && n) || (z && r)) ≡ (z && ((a && n) || r))
  one_more true true n r = refl
  one_more true false n r = refl
  one_more false true n r = refl
  one_more false false n r = refl

  no_zero : (z : Bool) → false ≡ (z && false)
  no_zero true = refl
  no_zero false = refl

  -- what a group names whose only clause asks
  named_alone : (child : Tree) → (is_named child field.0 field.1 word || false) ≡ is_named child field.0 field.1 word
  named_alone child = or_false (is_named child field.0 field.1 word)

  mutual
    clause_named : (occur : Occur) (tree : Tree) (e : ℕ) → marks_name field k (clause_marks occur tree) e
        ≡ ((asks occur && e == 0) && is_named tree field.0 field.1 word)
    clause_named occur (Tree.Term f v) e =
        or_false _ ∙ ap (λ b. (asks occur && e == 0) && b) (at_word field.0 (get_or field.1 k []) f v)
    clause_named occur (Tree.Phrase f phrase) e =
        or_false _ ∙ ap (λ b. (asks occur && e == 0) && b) (covered_phrase field f phrase k)
    clause_named occur (Tree.Prefix f front) e = or_false _
    clause_named occur (Tree.Span f low high) e = or_false _
    clause_named occur Tree.All e = or_false _
    clause_named occur (Tree.Group (clause Must child none)) e =
        clause_named occur child e ∙ ap (λ b. (asks occur && e == 0) && b) (sym (named_alone child))
    clause_named occur (Tree.Group (clause Should child none)) e =
        clause_named occur child e ∙ ap (λ b. (asks occur && e == 0) && b) (sym (named_alone child))
    clause_named occur (Tree.Group clauses) e =
        name_append (group_marks clauses) (Close occur ∷ []) e
        ∙ or_false (marks_name field k (group_marks clauses) (excluded_before {K = KeyValue} (Close occur) e))
        ∙ group_named clauses (excluded_before {K = KeyValue} (Close occur) e)
        ∙ ap (λ b. b && is_named_by clauses field.0 field.1 word) (closed (asks occur) e)

    group_named : (clauses : Clauses) (e : ℕ) → marks_name field k (group_marks clauses) e
        ≡ (e == 0 && is_named_by clauses field.0 field.1 word)
    group_named none e = no_zero (e == 0)
    group_named (clause occur child others) e =
        name_append (clause_marks occur child) (group_marks others) e
        ∙ ap (λ n. marks_name field k (clause_marks occur child) n || marks_name field k (group_marks others) e)
        (group_balanced others e)
        ∙ (λ i. clause_named occur child e i || group_named others e i)
        ∙ one_more (e == 0) (asks occur) (is_named child field.0 field.1 word) (is_named_by others field.0 field.1 word)

  pub plan_named : (tree : Tree) → marks_name field k (plan_of tree) 0 ≡ is_named tree field.0 field.1 word
  plan_named (Tree.Group (clause Must child none)) = plan_named child ∙ sym (named_alone child)
  plan_named (Tree.Group (clause Should child none)) = plan_named child ∙ sym (named_alone child)
  plan_named (Tree.Group clauses) = group_named clauses 0
  plan_named leaf = clause_named Must leaf 0

-- ---- from the last step to the first

or_turned : (a b c : Bool) → ((a || b) || c) ≡ (a || (c || b))
or_turned true b c = refl
or_turned false true true = refl
or_turned false true false = refl
or_turned false false true = refl
or_turned false false false = refl

few_of : (b : Bool) (e : ℕ) → cond b 0 (e + 1) ≤ e + 1
few_of true e = omega arith
few_of false e = omega arith

-- a mark adds one at most
few_more : (mark : Mark KeyValue) (e : ℕ) → excluded_before mark e ≤ e + 1
few_more (Leaf occur leaf) e = omega arith
few_more (Open occur inside) e = omega arith
few_more (Close occur) e = few_of (asks occur && e == 0) e

pub few_back : (mark : Mark KeyValue) (e now : ℕ) → now ≡ excluded_before mark e → now ≤ e + 1
few_back mark e now is = omega (arith, is, few_more mark e)

module _ (runs : List (List ℕ)) (queries : List Tree) (terms : List KeyValue) (steps : List Step) where
  abbrev from : ℕ → List (Mark KeyValue)
  from i = map (meant runs queries terms) (drop i steps)

  one_back : (i left : ℕ) (d : Step) → i + 1 ≡ left → left ≤ length steps
      → from i ≡ meant runs queries terms (get_or steps i d) ∷ from left
  one_back i left d next inside =
      ap (map (meant runs queries terms)) (drop_more steps i d (omega (arith, next, inside)))
      ∙ ap (λ m. meant runs queries terms (get_or steps i d) ∷ from m) next

  pub counted_back : (i left : ℕ) (d : Step) (e now : ℕ) → i + 1 ≡ left → left ≤ length steps
      → e ≡ excluded_at (from left) 0 → now ≡ excluded_before (meant runs queries terms (get_or steps i d)) e
      → now ≡ excluded_at (from i) 0
  counted_back i left d e now next inside counted moved =
      moved ∙ ap (excluded_before (meant runs queries terms (get_or steps i d))) counted
      ∙ ap (λ ms. excluded_at ms 0) (sym (one_back i left d next inside))

  pub raised_back : (field : FieldValue) (k i left : ℕ) (d : Step) (e : ℕ) (old was now : Bool) → i + 1 ≡ left
      → left ≤ length steps → e ≡ excluded_at (from left) 0 → was ≡ (old || marks_name field k (from left) 0)
      → now ≡ (was || step_names field k (meant runs queries terms (get_or steps i d)) e)
      → now ≡ (old || marks_name field k (from i) 0)
  raised_back field k i left d e old was now next inside counted before here =
      let mark = meant runs queries terms (get_or steps i d) in
      here ∙ ap (λ b. b || step_names field k mark e) before
      ∙ or_turned old (marks_name field k (from left) 0) (step_names field k mark e)
      ∙ ap (λ x. old || (step_names field k mark x || marks_name field k (from left) 0)) counted
      ∙ ap (λ ms. old || marks_name field k ms 0) (sym (one_back i left d next inside))

  none_from : (i : ℕ) → length steps ≤ i → from i ≡ []
  none_from i all = ap (map (meant runs queries terms)) (drop_all i steps all)

  pub counted_none : (i : ℕ) → length steps ≤ i → 0 ≡ excluded_at (from i) 0
  counted_none i all = sym (ap (λ ms. excluded_at ms 0) (none_from i all))

  pub raised_none : (field : FieldValue) (k i : ℕ) (old : Bool) → length steps ≤ i
      → old ≡ (old || marks_name field k (from i) 0)
  raised_none field k i old all = sym (ap (λ ms. old || marks_name field k ms 0) (none_from i all) ∙ or_false old)

  -- all steps are read
  pub raised_all : (field : FieldValue) (k left : ℕ) (tree : Tree) (old now : Bool) → left ≤ 0
      → now ≡ (old || marks_name field k (from left) 0) → map (meant runs queries terms) steps ≡ plan_of tree
      → now ≡ (old || is_named tree field.0 field.1 (get_or field.1 k [], k))
  raised_all field k left tree old now end is plan =
      let first : left ≡ 0 = omega (arith, end) in
      is ∙ ap (λ m. old || marks_name field k (from m) 0) first ∙ ap (λ ms. old || marks_name field k ms 0) plan
      ∙ ap (λ b. old || b) (plan_named field k tree)

-- ---- plans that name no word of a field

-- a step that names none adds none
pub skipped : (runs : List (List ℕ)) (queries : List Tree) (terms : List KeyValue) (steps : List Step)
    (field : FieldValue) (k i : ℕ) (d : Step) → i < length steps
    → mark_names field k (meant runs queries terms (get_or steps i d)) ≡ false
    → marks_name field k (map (meant runs queries terms) (drop i steps)) 0
    ≡ marks_name field k (map (meant runs queries terms) (drop (i + 1) steps)) 0
skipped runs queries terms steps field k i d inside unnamed =
    let mark = meant runs queries terms (get_or steps i d) in
    let after = map (meant runs queries terms) (drop (i + 1) steps) in
    ap (λ ss. marks_name field k (map (meant runs queries terms) ss) 0) (drop_more steps i d inside)
    ∙ ap (λ b. ((mark_asks mark && excluded_at after 0 == 0) && b) || marks_name field k after 0) unnamed
    ∙ no (mark_asks mark && excluded_at after 0 == 0) (marks_name field k after 0)
  where
    no : (a b : Bool) → ((a && false) || b) ≡ b
    no true b = refl
    no false b = refl

filter_none : (t : List ℕ × ℕ → Bool) (ws : List (List ℕ)) (n : ℕ) → ((k : ℕ) → t (get_or ws k [], n + k) ≡ false)
    → filter t (numbered n ws) ≡ []
filter_none t [] n fails = refl
filter_none t (w ∷ ws) n fails =
    ap (λ b. cond b ((w, n) ∷ filter t (numbered (n + 1) ws)) (filter t (numbered (n + 1) ws)))
    (ap (λ (m : ℕ). t (w, m)) (omega arith) ∙ fails 0)
    ∙ filter_none t ws (n + 1) (λ k. ap (λ (m : ℕ). t (get_or ws k [], m)) (omega arith) ∙ fails (suc k))

-- a query that names no word of a field has no hit in it
pub no_hits : (tree : Tree) (field : FieldValue)
    → ((k : ℕ) → is_named tree field.0 field.1 (get_or field.1 k [], k) ≡ false) → hits_in tree field ≡ []
no_hits tree field fails =
    ap (map (λ (w : List ℕ × ℕ). (field.0, w.1)))
    (filter_none (is_named tree field.0 field.1) field.1 0
    (λ k. ap (λ (m : ℕ). is_named tree field.0 field.1 (get_or field.1 k [], m)) (omega arith) ∙ fails k))

-- ---- hits

-- what is added is what is meant by each tree of a kind
pub on_each : {E X : Type 0} (P : Tree → Type 0) (r : Result (Unit {0}) E) (new old more : List X) (meant_by : Tree
    → List X) → ((tree : Tree) → P tree → more ≡ meant_by tree) → OnOk r (new ≡ old ++ more)
    → OnOk r ((tree : Tree) → P tree → new ≡ old ++ meant_by tree)
on_each P (Err e) new old more meant_by same h = tt
on_each P (Ok u) new old more meant_by same h = λ tree p. h ∙ ap (λ xs. old ++ xs) (same tree p)

-- one field more
pub field_more : {S H : Type 0} (g : FieldValue → S) (h : FieldValue
    → List H) (fields : List FieldValue) (spots : List S) (i : ℕ) (s : S) → spots ≡ map g fields → i < length spots
    → s ≡ get_or spots i s
    → (f : FieldValue) × (s ≡ g f) × (flat_map h (take (i + 1) fields) ≡ flat_map h (take i fields) ++ h f)
field_more g h fields spots i s are lt is =
    let inside : i < length fields = omega (arith, lt, ap length are, length-map fields g) in
    let f : FieldValue = get_or fields i ([], []) in (
      f,
      is ∙ ap (λ xs. get_or xs i s) are ∙ get_or-map g fields i ([], []) s inside,
      ap (flat_map h) (take_more fields i ([], []) inside) ∙ flat_map-append h (take i fields) (f ∷ [])
          ∙ ap (λ xs. flat_map h (take i fields) ++ xs) (append-nil (h f)),
    )
