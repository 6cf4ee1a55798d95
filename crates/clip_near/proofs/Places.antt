-- The positions of a field's words, and that a query which stands at one holds.
use Rattle.std.proofs.Common.{◌≡◌, ℕ, zero, suc, ◌+◌, ◌<◌, Bool, true, false, ◌&&◌, ◌||◌, List, [], ◌∷◌, length}
use Rattle.std.proofs.Common.{drop, refl, sym, ap, ◌∙◌, arith, true≢false, bytes_eq, unwrap_or, slice_get, None, Some}
use Rattle.std.specs.List.{list_any, starts_with}
use Rattle.clip_grammar.specs.Tree.{Tree, Clauses}
use Rattle.clip_grammar.specs.Tokens.{End}
use Rattle.clip_meaning.specs.Article.{Fields, words_in}
use Rattle.clip_meaning.specs.Index.{numbered}
use Rattle.clip_meaning.specs.Meaning.{holds, begins_with, is_nonempty, has_run}
use Rattle.clip_near.specs.Near.{stands, stands_at, field_of}

-- ---- some position

pub or_right : (a b : Bool) → b ≡ true → (a || b) ≡ true
or_right true b h = refl
or_right false b h = h

some_from : (p : ℕ → Bool) (s : ℕ) (words : List (List ℕ)) (k : ℕ) → k < length words → p (s + k) ≡ true
    → list_any (λ (w : List ℕ × ℕ). p w.1) (numbered s words) ≡ true
some_from p s [] k lt h = absurd (omega (arith, lt))
some_from p s (w ∷ ws) zero lt h =
    let here : s + 0 ≡ s = omega arith in
    ap (λ b. b || list_any (λ (x : List ℕ × ℕ). p x.1) (numbered (s + 1) ws)) (sym (ap p here) ∙ h)
some_from p s (w ∷ ws) (suc k) lt h =
    let on : s + 1 + k ≡ s + suc k = omega arith in
    or_right (p s) (list_any (λ (x : List ℕ × ℕ). p x.1) (numbered (s + 1) ws))
    (some_from p (s + 1) ws k (omega (arith, lt)) (ap p on ∙ h))

-- it passes at a position
pub some_at : (p : ℕ → Bool) (words : List (List ℕ)) (k : ℕ) → k < length words → p k ≡ true
    → list_any (λ (w : List ℕ × ℕ). p w.1) (numbered 0 words) ≡ true
some_at p words k lt h = let from : 0 + k ≡ k = omega arith in some_from p 0 words k lt (ap p from ∙ h)

none_from : (p : ℕ → Bool) (s : ℕ) (words : List (List ℕ)) → ((k : ℕ) → k < s + length words → p k ≡ false)
    → list_any (λ (w : List ℕ × ℕ). p w.1) (numbered s words) ≡ false
none_from p s [] h = refl
none_from p s (w ∷ ws) h =
    ap (λ b. b || list_any (λ (x : List ℕ × ℕ). p x.1) (numbered (s + 1) ws)) (h s (omega arith))
    ∙ none_from p (s + 1) ws (λ k lt. h k (omega (arith, lt)))

-- it passes at none
pub none_at : (p : ℕ → Bool) (words : List (List ℕ)) → ((k : ℕ) → k < length words → p k ≡ false)
    → list_any (λ (w : List ℕ × ℕ). p w.1) (numbered 0 words) ≡ false
none_at p words h = none_from p 0 words (λ k lt. h k (omega (arith, lt)))

-- where it passes
pub record At (p : ℕ → Bool) : Type 0 where
  pub position : ℕ
  pub passes : p position ≡ true

pub where_some : (p : ℕ → Bool) (s : ℕ) (words : List (List ℕ))
    → list_any (λ (w : List ℕ × ℕ). p w.1) (numbered s words) ≡ true → At p
where_some p s [] h = absurd (true≢false (sym h))
where_some p s (w ∷ ws) h = at (p s) refl h (where_some p (s + 1) ws)
  where
    at : (b : Bool) → p s ≡ b → (b || list_any (λ (x : List ℕ × ℕ). p x.1) (numbered (s + 1) ws)) ≡ true
        → (list_any (λ (x : List ℕ × ℕ). p x.1) (numbered (s + 1) ws) ≡ true → At p) → At p
    at true e h others = record { position = s; passes = e }
    at false e h others = others h

-- ---- where a query stands

stands_nothing : (query : Tree) → stands query [] ≡ false
stands_nothing (Tree.Term field word) = refl
stands_nothing (Tree.Phrase field []) = refl
stands_nothing (Tree.Phrase field (p ∷ ps)) = refl
stands_nothing (Tree.Prefix field front) = refl
stands_nothing (Tree.Span field low high) = refl
stands_nothing Tree.All = refl
stands_nothing (Tree.Group clauses) = refl

pub stands_inside : (query : Tree) (words : List (List ℕ)) (k : ℕ) → stands_at query words k ≡ true → k < length words
stands_inside query [] zero h = absurd (true≢false (sym h ∙ stands_nothing query))
stands_inside query [] (suc k) h = absurd (true≢false (sym h ∙ stands_nothing query))
stands_inside query (w ∷ ws) zero h = omega arith
stands_inside query (w ∷ ws) (suc k) h = omega (arith, stands_inside query ws k h)

-- it stands at no position past the last word
pub stands_past : (query : Tree) (words : List (List ℕ)) (k : ℕ) → slice_get words k ≡ None
    → stands_at query words k ≡ false
stands_past query [] zero h = stands_nothing query
stands_past query [] (suc k) h = stands_nothing query
stands_past query (w ∷ ws) zero h = cc
stands_past query (w ∷ ws) (suc k) h = stands_past query ws k h

-- the words from a position on begin with the one that is there
pub word_there : (words : List (List ℕ)) (k : ℕ) (w : List ℕ) → slice_get words k ≡ Some w
    → drop k words ≡ w ∷ drop (suc k) words
word_there [] k w h = cc
word_there (x ∷ xs) zero w h = let same : x ≡ w = cc in ap (λ y. y ∷ xs) same
word_there (x ∷ xs) (suc k) w h = word_there xs k w h

-- what a look at a position finds of a word, a prefix or a phrase tells whether the query stands there
pub term_there : (query : Tree) (field word w text : List ℕ) (words : List (List ℕ)) (k : ℕ) (found : Bool)
    → query ≡ Tree.Term field word → slice_get words k ≡ Some w → text ≡ word → found ≡ bytes_eq w text
    → found ≡ stands_at query words k
term_there query field word w text words k found is there same e =
    e ∙ ap (bytes_eq w) same ∙ sym (ap (stands (Tree.Term field word)) (word_there words k w there))
    ∙ ap (λ q. stands_at q words k) (sym is)

pub prefix_there : (query : Tree) (field front w text asked : List ℕ) (words : List (List ℕ)) (k : ℕ) (found : Bool)
    → query ≡ Tree.Prefix field front → slice_get words k ≡ Some w → text ≡ w → asked ≡ front
    → found ≡ begins_with asked text → found ≡ stands_at query words k
prefix_there query field front w text asked words k found is there same sought e =
    e ∙ (λ i. begins_with (sought i) (same i))
    ∙ sym (ap (stands (Tree.Prefix field front)) (word_there words k w there))
    ∙ ap (λ q. stands_at q words k) (sym is)

pub phrase_there : (query : Tree) (field : List ℕ) (phrase words : List (List ℕ)) (k : ℕ) (found : Bool)
    → query ≡ Tree.Phrase field phrase → 0 < length phrase → found ≡ starts_with bytes_eq (drop k words) phrase
    → found ≡ stands_at query words k
phrase_there query field [] words k found is some e = absurd (omega arith)
phrase_there query field (p ∷ ps) words k found is some e = e ∙ ap (λ q. stands_at q words k) (sym is)

pub no_phrase : (query : Tree) (field : List ℕ) (phrase words : List (List ℕ)) (k : ℕ)
    → query ≡ Tree.Phrase field phrase → length phrase ≡ 0 → false ≡ stands_at query words k
no_phrase query field [] words k is none = ap (λ q. stands_at q words k) (sym is)
no_phrase query field (p ∷ ps) words k is none = absurd (omega arith)

-- ---- it holds

term_stands : (field word : List ℕ) (words : List (List ℕ)) (k : ℕ)
    → stands (Tree.Term field word) (drop k words) ≡ true → list_any (λ w. bytes_eq w word) words ≡ true
term_stands field word [] zero h = h
term_stands field word [] (suc k) h = h
term_stands field word (w ∷ ws) zero h = ap (λ b. b || list_any (λ x. bytes_eq x word) ws) h
term_stands field word (w ∷ ws) (suc k) h = or_right (bytes_eq w word) _ (term_stands field word ws k h)

prefix_stands : (field front : List ℕ) (words : List (List ℕ)) (k : ℕ)
    → stands (Tree.Prefix field front) (drop k words) ≡ true → list_any (begins_with front) words ≡ true
prefix_stands field front [] zero h = h
prefix_stands field front [] (suc k) h = h
prefix_stands field front (w ∷ ws) zero h = ap (λ b. b || list_any (begins_with front) ws) h
prefix_stands field front (w ∷ ws) (suc k) h = or_right (begins_with front w) _ (prefix_stands field front ws k h)

run_stands : (p : List ℕ) (ps : List (List ℕ)) (words : List (List ℕ)) (k : ℕ)
    → starts_with bytes_eq (drop k words) (p ∷ ps) ≡ true → has_run words (p ∷ ps) ≡ true
run_stands p ps [] zero h = h
run_stands p ps [] (suc k) h = h
run_stands p ps (w ∷ ws) zero h = ap (λ b. b || has_run ws (p ∷ ps)) h
run_stands p ps (w ∷ ws) (suc k) h =
    or_right (starts_with bytes_eq (w ∷ ws) (p ∷ ps)) (has_run ws (p ∷ ps)) (run_stands p ps ws k h)

phrase_stands : (field : List ℕ) (phrase : List (List ℕ)) (words : List (List ℕ)) (k : ℕ)
    → stands (Tree.Phrase field phrase) (drop k words) ≡ true → (is_nonempty phrase && has_run words phrase) ≡ true
phrase_stands field [] words k h = h
phrase_stands field (p ∷ ps) words k h = run_stands p ps words k h

span_stands : (field : List ℕ) (low high : End) (words : List (List ℕ))
    → stands (Tree.Span field low high) words ≡ false
span_stands field low high [] = refl
span_stands field low high (w ∷ ws) = refl

all_stands : (words : List (List ℕ)) → stands Tree.All words ≡ false
all_stands [] = refl
all_stands (w ∷ ws) = refl

group_stands : (clauses : Clauses) (words : List (List ℕ)) → stands (Tree.Group clauses) words ≡ false
group_stands clauses [] = refl
group_stands clauses (w ∷ ws) = refl

-- a query that stands somewhere in the words of its field holds
pub standing : (query : Tree) (fields : Fields) (k : ℕ)
    → stands_at query (words_in fields (unwrap_or (field_of query) [])) k ≡ true → holds query fields ≡ true
standing (Tree.Term field word) fields k h = term_stands field word (words_in fields field) k h
standing (Tree.Phrase field phrase) fields k h = phrase_stands field phrase (words_in fields field) k h
standing (Tree.Prefix field front) fields k h = prefix_stands field front (words_in fields field) k h
standing (Tree.Span field low high) fields k h =
    absurd (true≢false (sym h ∙ span_stands field low high (drop k (words_in fields []))))
standing Tree.All fields k h = absurd (true≢false (sym h ∙ all_stands (drop k (words_in fields []))))
standing (Tree.Group clauses) fields k h =
    absurd (true≢false (sym h ∙ group_stands clauses (drop k (words_in fields []))))
