-- The keys that a plan names, and plans over other numbers of the same terms.
use Rattle.std.proofs.Common.{◌≡◌, ℕ, zero, suc, Bool, true, false, ◌||◌, List, [], ◌∷◌, ◌++◌, map, Option, Some, None}
use Rattle.std.proofs.Common.{unwrap_or, refl, sym, ap, ◌∙◌, append-nil, IsTrue}
use Rattle.std.specs.List.{list_any, AllByRecursion}
use Rattle.std.proofs.lemmas.Bool.{false≢true}
use Rattle.std.proofs.lemmas.List.{map-append}
use Rattle.std.proofs.lemmas.List.Folds.{list_any-append}
use Rattle.std.proofs.lemmas.Grind.{flat_map-append}
use Rattle.clip_grammar.specs.Tree.{Tree, Clauses, none, clause}
use Rattle.clip_grammar.specs.declared.query.Occur.{Occur}
use Rattle.clip_grammar.specs.declared.query.Occur.TheVariants.{Must, Should}
use Rattle.clip_extract.specs.Keys.{KeyValue, Any, Word, is_same}
use Rattle.clip_extract.proofs.Order.{same_itself}
use Rattle.clip_terms.specs.Terms.{term_at, number_of}
use Rattle.clip_plan.specs.Plan.{Has, Run, Is, Mark, Leaf, Open, Close, mark_names, names, named, decoded, renumbered}
use Rattle.clip_plan.specs.Plan.{renamed, clause_marks, group_marks, plan_of, word_keys, clause_word_keys, are_terms}
use Rattle.clip_plan.proofs.Numbering.{number_term, term_has_number, are_parts}

-- ---- marks with other names

mark_named : {J K : Type 0} (f : J → K) (mark : Mark J) → mark_names (named f mark) ≡ map f (mark_names mark)
mark_named f (Leaf occur (Has k)) = refl
mark_named f (Leaf occur (Run ks)) = refl
mark_named f (Leaf occur (Is tree)) = refl
mark_named f (Open occur inside) = refl
mark_named f (Close occur) = refl

names_named : {J K : Type 0} (f : J → K) (marks : List (Mark J)) → names (map (named f) marks) ≡ map f (names marks)
names_named f [] = refl
names_named f (m ∷ ms) = ap (λ ks. ks ++ names (map (named f) ms)) (mark_named f m)
    ∙ ap (λ ks. map f (mark_names m) ++ ks) (names_named f ms) ∙ sym (map-append f (mark_names m) (names ms))

map_twice : {I J K : Type 0} (f : I → J) (g : J → K) (ks : List I) → map g (map f ks) ≡ map (λ k. g (f k)) ks
map_twice f g [] = refl
map_twice f g (k ∷ ks) = ap (λ l. g (f k) ∷ l) (map_twice f g ks)

mark_twice : {I J K : Type 0} (f : I → J) (g : J → K) (mark : Mark I)
    → named g (named f mark) ≡ named (λ k. g (f k)) mark
mark_twice f g (Leaf occur (Has k)) = refl
mark_twice f g (Leaf occur (Run ks)) = ap (λ l. Leaf occur (Run l)) (map_twice f g ks)
mark_twice f g (Leaf occur (Is tree)) = refl
mark_twice f g (Open occur inside) = refl
mark_twice f g (Close occur) = refl

named_twice : {I J K : Type 0} (f : I → J) (g : J → K) (marks : List (Mark I)) → map (named g) (map (named f) marks)
    ≡ map (named (λ k. g (f k))) marks
named_twice f g [] = refl
named_twice f g (m ∷ ms) = ap (λ x. x ∷ map (named g) (map (named f) ms)) (mark_twice f g m)
    ∙ ap (λ l. named (λ k. g (f k)) m ∷ l) (named_twice f g ms)

-- ---- names that agree

abbrev Agree : {J K : Type 0} → (J → K) → (J → K) → List J → Type 0
Agree f g ks = AllByRecursion (λ k. f k ≡ g k) ks

agree_parts : {J K : Type 0} (f g : J → K) (xs ys : List J) → Agree f g (xs ++ ys) → Agree f g xs × Agree f g ys
agree_parts f g [] ys h = (tt, h)
agree_parts f g (x ∷ xs) ys h = let later = agree_parts f g xs ys h.1 in ((h.0, later.0), later.1)

map_same : {J K : Type 0} (f g : J → K) (ks : List J) → Agree f g ks → map f ks ≡ map g ks
map_same f g [] h = refl
map_same f g (k ∷ ks) h = ap (λ x. x ∷ map f ks) h.0 ∙ ap (λ l. g k ∷ l) (map_same f g ks h.1)

mark_same : {J K : Type 0} (f g : J → K) (mark : Mark J) → Agree f g (mark_names mark) → named f mark ≡ named g mark
mark_same f g (Leaf occur (Has k)) h = ap (λ x. Leaf occur (Has x)) h.0
mark_same f g (Leaf occur (Run ks)) h = ap (λ l. Leaf occur (Run l)) (map_same f g ks h)
mark_same f g (Leaf occur (Is tree)) h = refl
mark_same f g (Open occur inside) h = refl
mark_same f g (Close occur) h = refl

named_same : {J K : Type 0} (f g : J → K) (marks : List (Mark J)) → Agree f g (names marks)
    → map (named f) marks ≡ map (named g) marks
named_same f g [] h = refl
named_same f g (m ∷ ms) h =
    let parts = agree_parts f g (mark_names m) (names ms) h in
    ap (λ x. x ∷ map (named f) ms) (mark_same f g m parts.0) ∙ ap (λ l. named g m ∷ l) (named_same f g ms parts.1)

-- ---- the plan of a query names its words

mutual
  clause_names : (occur : Occur) (tree : Tree) → names (clause_marks occur tree) ≡ word_keys tree
  clause_names occur (Tree.Term field word) = refl
  clause_names occur (Tree.Phrase field words) = append-nil (map (Word field) words)
  clause_names occur (Tree.Prefix field front) = refl
  clause_names occur (Tree.Span field low high) = refl
  clause_names occur Tree.All = refl
  clause_names occur (Tree.Group (clause Must child none)) =
      clause_names occur child ∙ sym (append-nil (word_keys child))
  clause_names occur (Tree.Group (clause Should child none)) =
      clause_names occur child ∙ sym (append-nil (word_keys child))
  clause_names occur (Tree.Group clauses) =
      flat_map-append mark_names (group_marks clauses) (Close occur ∷ []) ∙ append-nil (names (group_marks clauses))
      ∙ group_names clauses

  group_names : (clauses : Clauses) → names (group_marks clauses) ≡ clause_word_keys clauses
  group_names none = refl
  group_names (clause occur child others) =
      flat_map-append mark_names (clause_marks occur child) (group_marks others)
      ∙ ap (λ ks. ks ++ names (group_marks others)) (clause_names occur child)
      ∙ ap (λ ks. word_keys child ++ ks) (group_names others)

plan_names : (tree : Tree) → names (plan_of tree) ≡ word_keys tree
plan_names (Tree.Group (clause Must child none)) = plan_names child ∙ sym (append-nil (word_keys child))
plan_names (Tree.Group (clause Should child none)) = plan_names child ∙ sym (append-nil (word_keys child))
plan_names (Tree.Group clauses) = group_names clauses
plan_names leaf = clause_names Must leaf

-- the numbers of a query's plan are those of its words
pub numbered_words : (terms : List KeyValue) (plan : List (Mark ℕ)) (tree : Tree) → decoded terms plan ≡ plan_of tree
    → map (term_at terms) (names plan) ≡ word_keys tree
numbered_words terms plan tree is = sym (names_named (term_at terms) plan) ∙ ap names is ∙ plan_names tree

no_any : (field : List ℕ) (words : List (List ℕ)) → list_any (is_same Any) (map (Word field) words) ≡ false
no_any field [] = refl
no_any field (w ∷ ws) = no_any field ws

mutual
  -- what every article has is none of them
  pub words_only : (tree : Tree) → list_any (is_same Any) (word_keys tree) ≡ false
  words_only (Tree.Term field word) = refl
  words_only (Tree.Phrase field words) = no_any field words
  words_only (Tree.Prefix field front) = refl
  words_only (Tree.Span field low high) = refl
  words_only Tree.All = refl
  words_only (Tree.Group clauses) = clause_words_only clauses

  clause_words_only : (clauses : Clauses) → list_any (is_same Any) (clause_word_keys clauses) ≡ false
  clause_words_only none = refl
  clause_words_only (clause occur child others) =
      list_any-append (is_same Any) (word_keys child) (clause_word_keys others)
      ∙ ap (λ b. b || list_any (is_same Any) (clause_word_keys others)) (words_only child)
      ∙ clause_words_only others

-- ---- a plan over other terms

module _ (old new : List KeyValue) where
  abbrev leads : List KeyValue → ℕ → KeyValue
  leads front n = term_at new (renumbered (map (number_of new) front) n)

  same_term : (front : List KeyValue) (n : ℕ) → IsTrue (are_terms new (term_at front n ∷ []))
      → is_same Any (term_at front n) ≡ false → leads front n ≡ term_at front n
  same_term [] n among other = absurd (false≢true (sym other ∙ same_itself Any))
  same_term (t ∷ ts) zero among other = by_number (number_of new t) refl
    where
      by_number : (o : Option ℕ) → number_of new t ≡ o → term_at new (unwrap_or o 0) ≡ t
      by_number None e = absurd (term_has_number new t among e)
      by_number (Some m) e = number_term new t m e
  same_term (t ∷ ts) (suc n) among other = same_term ts n among other

  same_terms : (ns : List ℕ) → IsTrue (are_terms new (map (term_at old) ns))
      → list_any (is_same Any) (map (term_at old) ns) ≡ false → Agree (leads old) (term_at old) ns
  same_terms [] among other = tt
  same_terms (n ∷ ns) among other =
      let parts = are_parts new (term_at old n ∷ []) (map (term_at old) ns) among in
      let others = neither (is_same Any (term_at old n)) (list_any (is_same Any) (map (term_at old) ns)) other in
      (same_term old n parts.0 others.0, same_terms ns parts.1 others.1)
    where
      neither : (a b : Bool) → (a || b) ≡ false → (a ≡ false) × (b ≡ false)
      neither true b h = absurd (false≢true (sym h))
      neither false b h = (refl, h)

  -- with the new numbers of its terms it is the plan of the same query
  pub plan_renamed : (plan : List (Mark ℕ)) (tree : Tree) → decoded old plan ≡ plan_of tree
      → IsTrue (are_terms new (word_keys tree)) → decoded new (renamed (map (number_of new) old) plan) ≡ plan_of tree
  plan_renamed plan tree is among =
      let words = numbered_words old plan tree is in
      named_twice (renumbered (map (number_of new) old)) (term_at new) plan
      ∙ named_same (leads old) (term_at old) plan
      (same_terms (names plan) (ap (are_terms new) words ∙ among) (ap (list_any (is_same Any)) words ∙ words_only tree))
      ∙ is
