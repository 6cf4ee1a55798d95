-- A query that asks for one of several words holds of each article that has one of its keys.
use Rattle.std.proofs.Common.{◌≡◌, ℕ, Bool, true, ◌&&◌, ◌||◌, List, [], ◌∷◌, ◌++◌}
use Rattle.std.proofs.Common.{flat_map, fold, unwrap_or, refl, sym, ap, ap₂, ◌∙◌, append_assoc, append-nil}
use Rattle.std.specs.List.{list_all, list_any}
use Rattle.std.proofs.Math.Bool.{or-true}
use Rattle.std.proofs.lemmas.Bool.{and_parts, and_from, false≢true}
use Rattle.std.proofs.lemmas.Grind.{flat_map-append}
use Rattle.std.proofs.lemmas.List.Folds.{list_all-append, list_any-append}
use Rattle.clip_grammar.specs.Tree.{Tree, Clauses, none, clause}
use Rattle.clip_grammar.specs.declared.query.Occur.{Occur}
use Rattle.clip_grammar.specs.declared.query.Occur.TheVariants.{Must, Should, MustNot}
use Rattle.clip_meaning.specs.Article.{Fields}
use Rattle.clip_meaning.specs.Meaning.{holds, verdicts, group_holds, meets_must, meets_must_not, meets_should, is_must}
use Rattle.clip_extract.specs.Covering.{article_keys}
use Rattle.clip_extract.specs.Extraction.{Extracted, together, heaviest, musts, shoulds, group_extract, extract}
use Rattle.clip_extract.specs.Extraction.{extracts, query_keys}
use Rattle.clip_extract.specs.Keys.{KeyValue, Word, share}
use Rattle.clip_extract.proofs.Order.{any_in_order}
use Rattle.clip_terms.specs.Reading.{has_key}
use Rattle.clip_terms.specs.Terms.{term_at}
use Rattle.clip_plan.specs.Plan.{Has, Run, Is, Mark, Leaf, Open, Close, clause_marks, group_marks, plan_of, mark_names}
use Rattle.clip_plan.specs.Plan.{names, named, decoded}
use Rattle.clip_plan.specs.Steps.Outlines.{may_be, may_be_there}
use Rattle.clip_plan.proofs.AskedKeys.{has_word_key, or_false}
use Rattle.clip_plan.proofs.Judging.{alone_must, alone_should}

-- ---- marks

may : (occur : Occur) → may_be occur ≡ true → occur ≡ Should
may Must h = absurd (false≢true h)
may Should h = refl
may MustNot h = absurd (false≢true h)

module _ (terms : List KeyValue) where
  one_chosen : (m : Mark ℕ) → may_be_there m ≡ true → may_be_there (named (term_at terms) m) ≡ true
  one_chosen (Leaf occur (Has n)) h = h
  one_chosen (Leaf occur (Run ns)) h = absurd (false≢true h)
  one_chosen (Leaf occur (Is tree)) h = absurd (false≢true h)
  one_chosen (Open occur inside) h = absurd (false≢true h)
  one_chosen (Close occur) h = absurd (false≢true h)

  marks_chosen : (marks : List (Mark ℕ)) → list_all may_be_there marks ≡ true
      → list_all may_be_there (decoded terms marks) ≡ true
  marks_chosen [] h = refl
  marks_chosen (m ∷ marks) h =
      let parts = and_parts (may_be_there m) (list_all may_be_there marks) h in
      and_from (may_be_there (named (term_at terms) m)) _ (one_chosen m parts.0) (marks_chosen marks parts.1)

-- ---- the clauses of a query

-- the keys of several
abbrev keys_of : List Extracted → List KeyValue
keys_of es = flat_map (λ e. e.keys) es

together_keys : (e : Extracted) (es : List Extracted) → (fold together e es).keys ≡ e.keys ++ keys_of es
together_keys e [] = sym (append-nil e.keys)
together_keys e (f ∷ es) = together_keys (together e f) es ∙ append_assoc e.keys f.keys (keys_of es)

module _ (fields : Fields) where
  -- A clause that may hold asks for one of the keys that its marks name, which are those that are extracted of it.
  record IsChoice (occur : Occur) (tree : Tree) : Type 0 where
    occurs : occur ≡ Should
    keys : (extract tree).keys ≡ names (clause_marks occur tree)
    held : list_any (has_key fields) (names (clause_marks occur tree)) ≡ holds tree fields

  chosen : (occur : Occur) (tree : Tree) → list_all may_be_there (clause_marks occur tree) ≡ true → IsChoice occur tree
  unfolding group_extract
  chosen occur (Tree.Term field word) h = record {
    occurs = may occur (and_parts (may_be occur) true h).0;
    keys = refl;
    held = or_false (has_key fields (Word field word)) ∙ has_word_key fields field word;
  }
  chosen occur (Tree.Phrase field words) h = absurd (false≢true h)
  chosen occur (Tree.Prefix field front) h = absurd (false≢true h)
  chosen occur (Tree.Span field low high) h = absurd (false≢true h)
  chosen occur Tree.All h = absurd (false≢true h)
  chosen occur (Tree.Group (clause Must child none)) h =
      let inner = chosen occur child h in
      record {
        occurs = inner.occurs;
        keys = inner.keys;
        held = inner.held ∙ sym (alone_must (holds child fields));
      }
  chosen occur (Tree.Group (clause Should child none)) h =
      let inner = chosen occur child h in
      record {
        occurs = inner.occurs;
        keys = inner.keys;
        held = inner.held ∙ sym (alone_should (holds child fields));
      }
  chosen occur (Tree.Group clauses) h = absurd (false≢true h)

  -- the same of all clauses of a group
  record AreChoices (clauses : Clauses) : Type 0 where
    no_must : musts (extracts clauses) ≡ []
    keys : keys_of (shoulds (extracts clauses)) ≡ names (group_marks clauses)
    must : list_all meets_must (verdicts clauses fields) ≡ true
    must_not : list_all meets_must_not (verdicts clauses fields) ≡ true
    held : list_any (has_key fields) (names (group_marks clauses)) ≡ list_any meets_should (verdicts clauses fields)

  all_parts : (occur : Occur) (child : Tree) (others : Clauses)
      → list_all may_be_there (group_marks (clause occur child others)) ≡ true
      → (list_all may_be_there (clause_marks occur child) ≡ true) × (list_all may_be_there (group_marks others) ≡ true)
  all_parts occur child others h = and_parts _ _
      (sym (list_all-append may_be_there (clause_marks occur child) (group_marks others)) ∙ h)

  all_chosen : (clauses : Clauses) → list_all may_be_there (group_marks clauses) ≡ true → AreChoices clauses
  all_chosen none h = record { no_must = refl; keys = refl; must = refl; must_not = refl; held = refl }
  all_chosen (clause Must child others) h =
      let first = chosen Must child (all_parts Must child others h).0 in
      absurd (false≢true (ap may_be first.occurs))
  all_chosen (clause Should child others) h =
      let parts = all_parts Should child others h in
      let first = chosen Should child parts.0 in
      let rest = all_chosen others parts.1 in
      let apart = flat_map-append mark_names (clause_marks Should child) (group_marks others) in
      record {
        no_must = rest.no_must;
        keys = ap₂ (λ ks ls. ks ++ ls) first.keys rest.keys ∙ sym apart;
        must = rest.must;
        must_not = rest.must_not;
        held = ap (list_any (has_key fields)) apart
            ∙ list_any-append (has_key fields) (names (clause_marks Should child)) (names (group_marks others))
            ∙ ap₂ (λ a b. a || b) first.held rest.held;
      }
  all_chosen (clause MustNot child others) h =
      let first = chosen MustNot child (all_parts MustNot child others h).0 in
      absurd (false≢true (ap may_be first.occurs))

  -- a group all of whose clauses may hold, one of which does
  one_met : (vs : List (Occur × Bool)) → list_all meets_must vs ≡ true → list_all meets_must_not vs ≡ true
      → list_any meets_should vs ≡ true → group_holds vs ≡ true
  unfolding group_holds
  one_met vs must must_not met =
      and_from (list_all meets_must vs && list_all meets_must_not vs) _
      (and_from (list_all meets_must vs) (list_all meets_must_not vs) must must_not)
      (ap (λ b. list_any is_must vs || b) met ∙ or-true (list_any is_must vs))

  -- the keys of a group without a clause that must hold
  optional_keys : (e : Extracted) (cs : List (Occur × Extracted)) → musts cs ≡ []
      → (group_extract ((Should, e) ∷ cs)).keys ≡ keys_of (e ∷ shoulds cs)
  unfolding group_extract
  optional_keys e cs no_must =
      ap (λ ms. (unwrap_or (heaviest ms) (fold together e (shoulds cs))).keys) no_must ∙ together_keys e (shoulds cs)

  group_by_key : (clauses : Clauses) → (group_marks clauses ≡ [] → ⊥)
      → list_all may_be_there (group_marks clauses) ≡ true
      → list_any (has_key fields) (group_extract (extracts clauses)).keys ≡ true
      → group_holds (verdicts clauses fields) ≡ true
  group_by_key none some h had = absurd (some refl)
  group_by_key (clause Must child others) some h had =
      absurd (false≢true (ap may_be (chosen Must child (all_parts Must child others h).0).occurs))
  group_by_key (clause Should child others) some h had =
      let clauses = clause Should child others in
      let are = all_chosen clauses h in
      one_met (verdicts clauses fields) are.must are.must_not
      (sym are.held ∙ ap (list_any (has_key fields)) (sym (optional_keys (extract child) (extracts others) are.no_must
      ∙ are.keys)) ∙ had)
  group_by_key (clause MustNot child others) some h had =
      absurd (false≢true (ap may_be (chosen MustNot child (all_parts MustNot child others h).0).occurs))

  -- one of its keys is enough for a query whose plan has such marks
  by_key : (tree : Tree) → (plan_of tree ≡ [] → ⊥) → list_all may_be_there (plan_of tree) ≡ true
      → list_any (has_key fields) (extract tree).keys ≡ true → holds tree fields ≡ true
  unfolding group_extract
  by_key (Tree.Group (clause Must child none)) some h had =
      alone_must (holds child fields) ∙ by_key child some h had
  by_key (Tree.Group (clause Should child none)) some h had =
      alone_should (holds child fields) ∙ by_key child some h had
  by_key (Tree.Group clauses) some h had = group_by_key clauses some h had
  by_key (Tree.Term field word) some h had = absurd (false≢true h)
  by_key (Tree.Phrase field words) some h had = absurd (false≢true h)
  by_key (Tree.Prefix field front) some h had = absurd (false≢true h)
  by_key (Tree.Span field low high) some h had = absurd (false≢true h)
  by_key Tree.All some h had = absurd (false≢true h)

-- ---- plans

no_step : {A : Type 0} (x : A) (xs : List A) → x ∷ xs ≡ [] → ⊥
no_step x xs e = cc

-- a plan that has marks, each of which asks for a word that may be there
pub marks_by_key : (terms : List KeyValue) (fields : Fields) (tree : Tree) (m : Mark ℕ) (marks : List (Mark ℕ))
    → list_all may_be_there (m ∷ marks) ≡ true → decoded terms (m ∷ marks) ≡ plan_of tree
    → share (query_keys tree) (article_keys fields) ≡ true → holds tree fields ≡ true
marks_by_key terms fields tree m marks h plan shares =
    by_key fields tree
    (λ none. no_step (named (term_at terms) m) (decoded terms marks) (plan ∙ none))
    (ap (list_all may_be_there) (sym plan) ∙ marks_chosen terms (m ∷ marks) h)
    (sym (any_in_order (has_key fields) (extract tree).keys) ∙ shares)
