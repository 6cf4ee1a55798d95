-- The positions of queries that have a key, with one query more.
use Rattle.std.proofs.Common.{◌≡◌, ℕ, suc, ◌+◌, ◌<◌, Bool, true, false, cond, List, [], ◌∷◌, ◌++◌, length, map, take}
use Rattle.std.proofs.Common.{get_or, refl, sym, ◌∙◌, ap, arith, length-take-le}
use Rattle.std.proofs.lemmas.List.{length-map, take_more, map-append}
use Rattle.std.proofs.lemmas.List.Elements.{filter-append}
use Rattle.std.specs.List.{filter, enumerate_from}
use Rattle.clip_grammar.specs.Tree.{Tree}
use Rattle.clip_extract.specs.Keys.{KeyValue}
use Rattle.clip_segment.specs.Index.{has_key, query_positions, query_positions_with}
use Rattle.clip_segment.specs.Steps.Ends.{NoneEnds}
use Rattle.clip_segment.proofs.Ended.{none_ends}

enumerate_push : (n : ℕ) (ts : List Tree) (t : Tree) → enumerate_from n (ts ++ t ∷ [])
    ≡ enumerate_from n ts ++ (n + length ts, t) ∷ []
enumerate_push n [] t = ap (λ m. (m, t) ∷ []) (omega arith)
enumerate_push n (x ∷ ts) t =
    let far : n + 1 + length ts ≡ n + suc (length ts) = omega arith in
    ap (λ xs. (n, x) ∷ xs) (enumerate_push (n + 1) ts t ∙ ap (λ m. enumerate_from (n + 1) ts ++ (m, t) ∷ []) far)

-- the positions that pass a test, of one query more
pub positions_push : (test : Tree → Bool) (ts : List Tree) (t : Tree) → query_positions test (ts ++ t ∷ [])
    ≡ query_positions test ts ++ cond (test t) (length ts ∷ []) []
positions_push test ts t =
    ap (λ xs. map (λ (p : ℕ × Tree). p.0) (filter (λ p. test p.1) xs)) (enumerate_push 0 ts t)
    ∙ ap (map (λ (p : ℕ × Tree). p.0)) (filter-append (λ p. test p.1) (enumerate_from 0 ts) ((0 + length ts, t) ∷ []))
    ∙ map-append (λ (p : ℕ × Tree). p.0) (filter (λ p. test p.1) (enumerate_from 0 ts)) _
    ∙ ap (λ xs. query_positions test ts ++ xs) (last (test t)) where
      last : (b : Bool) → map (λ (p : ℕ × Tree). p.0) (cond b ((0 + length ts, t) ∷ []) []) ≡ cond b (length ts ∷ []) []
      last true = ap (λ n. n ∷ []) (omega arith)
      last false = refl

-- the positions up to one item more of a list, each seen as a query
pub query_added : (keys_of : Tree → List KeyValue) {A : Type 0} (seen : A
    → Tree) (key : KeyValue) (items : List A) (j : ℕ) (d : A) → j < length items
    → query_positions_with keys_of key (map seen (take (j + 1) items))
    ≡ query_positions_with keys_of key (map seen (take j items))
    ++ cond (has_key keys_of key (seen (get_or items j d))) (j ∷ []) []
query_added keys_of seen key items j d inside =
    let long : length (map seen (take j items)) ≡ j = length-map (take j items) seen
    ∙ length-take-le j items (omega arith) in
    ap (λ xs. query_positions_with keys_of key (map seen xs)) (take_more items j d inside)
    ∙ ap (query_positions_with keys_of key) (map-append seen (take j items) (get_or items j d ∷ []))
    ∙ positions_push (has_key keys_of key) (map seen (take j items)) (seen (get_or items j d))
    ∙ ap (λ n. query_positions_with keys_of key (map seen (take j items))
    ++ cond (has_key keys_of key (seen (get_or items j d))) (n ∷ []) []) long

-- the list of each term after one query more
pub next_query : (keys_of : Tree → List KeyValue) {A : Type 0} (seen : A
    → Tree) (terms : List KeyValue) (items : List A) (j : ℕ) (query : A) (position : ℕ) (old new : List (List ℕ))
    → j < length items → query ≡ get_or items j query → position ≡ j
    → old ≡ map (λ term. query_positions_with keys_of term (map seen (take j items))) terms
    → ((f : KeyValue → List ℕ) → NoneEnds f position → old ≡ map f terms
    → new ≡ map (λ term. f term ++ cond (has_key keys_of term (seen query)) (position ∷ []) []) terms)
    → new ≡ map (λ term. query_positions_with keys_of term (map seen (take (j + 1) items))) terms
next_query keys_of seen terms items j query position old new inside is same before added =
    added _
    (none_ends keys_of (map seen (take j items)) position
    (length-map (take j items) seen ∙ length-take-le j items (omega arith) ∙ sym same)) before
    ∙ ap (λ n. map (λ term. query_positions_with keys_of term (map seen (take j items))
    ++ cond (has_key keys_of term (seen query)) (n ∷ []) []) terms) same
    ∙ ap (λ q. map (λ term. query_positions_with keys_of term (map seen (take j items))
    ++ cond (has_key keys_of term (seen q)) (j ∷ []) []) terms) is
    ∙ ap (λ f. map f terms) (λ i term. sym (query_added keys_of seen term items j query inside) i)
