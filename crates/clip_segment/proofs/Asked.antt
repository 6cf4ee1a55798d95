-- The keys and words of queries are among their terms.
use Rattle.std.proofs.Common.{◌≡◌, ℕ, zero, suc, ◌<◌, Bool, true, ◌||◌, List, [], ◌∷◌, ◌++◌, length, map, get_or}
use Rattle.std.proofs.Common.{flat_map, refl, sym, ◌∙◌, ap, arith, subst, IsTrue}
use Rattle.std.proofs.Math.Bool.{or-true}
use Rattle.std.proofs.lemmas.Bool.{and_from}
use Rattle.std.proofs.lemmas.List.Folds.{list_any-append}
use Rattle.std.specs.List.{list_any}
use Rattle.clip_grammar.specs.Tree.{Tree}
use Rattle.clip_grammar.proofs.Booleans.{either}
use Rattle.clip_extract.specs.Keys.{KeyValue, key_of, is_same}
use Rattle.clip_extract.specs.declared.key.Key.{Key}
use Rattle.clip_extract.specs.Extraction.{query_keys, second_keys}
use Rattle.clip_extract.proofs.Order.{same_itself, among_in_order}
use Rattle.clip_plan.specs.Plan.{are_terms, word_keys}
use Rattle.clip_plan.proofs.Numbering.{are_parts}
use Rattle.clip_segment.specs.Index.{asked_of, has_key, terms_of}

-- what passes in one of two lists passes in both together
pub in_first : (p : KeyValue → Bool) (xs ys : List KeyValue) → list_any p xs ≡ true → list_any p (xs ++ ys) ≡ true
in_first p xs ys h = list_any-append p xs ys ∙ ap (λ b. b || list_any p ys) h

pub in_second : (p : KeyValue → Bool) (xs ys : List KeyValue) → list_any p ys ≡ true → list_any p (xs ++ ys) ≡ true
in_second p xs ys h = list_any-append p xs ys ∙ ap (λ b. list_any p xs || b) h ∙ or-true (list_any p xs)

-- those keys of a query are among what it asks
abbrev pub AreAsked : (Tree → List KeyValue) → Type 0
AreAsked keys_of = (key : KeyValue) (tree : Tree) → list_any (is_same key) (keys_of tree) ≡ true
    → list_any (is_same key) (asked_of tree) ≡ true

pub keys_asked : AreAsked query_keys
keys_asked key tree h =
    in_first (is_same key) (query_keys tree ++ second_keys tree) (word_keys tree)
    (in_first (is_same key) (query_keys tree) (second_keys tree) h)

pub seconds_asked : AreAsked second_keys
seconds_asked key tree h =
    in_first (is_same key) (query_keys tree ++ second_keys tree) (word_keys tree)
    (in_second (is_same key) (query_keys tree) (second_keys tree) h)

-- a key that a query has is among what all ask
pub had_asked : (keys_of : Tree → List KeyValue) → AreAsked keys_of → (key : KeyValue) (trees : List Tree)
    → list_any (has_key keys_of key) trees ≡ true → list_any (is_same key) (flat_map asked_of trees) ≡ true
had_asked keys_of asked key [] h = h
had_asked keys_of asked key (t ∷ ts) h =
    either (has_key keys_of key t) (list_any (has_key keys_of key) ts) h
    (λ here. in_first (is_same key) (asked_of t) (flat_map asked_of ts) (asked key t here))
    (λ later. in_second (is_same key) (asked_of t) (flat_map asked_of ts) (had_asked keys_of asked key ts later))

-- what an item asks is among what all ask
asked_among : {A : Type 0} (seen : A → Tree) (items : List A) (i : ℕ) (x : A) (key : KeyValue) → i < length items
    → x ≡ get_or items i x
    → list_any (is_same key) (asked_of (seen x)) ≡ true → list_any (is_same key) (flat_map asked_of (map seen items))
    ≡ true
asked_among seen [] i x key inside is h = absurd (omega arith)
asked_among seen (y ∷ ys) zero x key inside is h =
    in_first (is_same key) (asked_of (seen y)) (flat_map asked_of (map seen ys))
    (ap (λ z. list_any (is_same key) (asked_of (seen z))) (sym is) ∙ h)
asked_among seen (y ∷ ys) (suc i) x key inside is h =
    in_second (is_same key) (asked_of (seen y)) (flat_map asked_of (map seen ys))
    (asked_among seen ys i x key (omega arith) is h)

-- keys all of which stand in a list are terms of it
pub terms_from : (terms keys : List KeyValue)
    → ((key : KeyValue) → list_any (is_same key) keys ≡ true → list_any (is_same key) terms ≡ true)
    → are_terms terms keys ≡ true
terms_from terms [] among = refl
terms_from terms (k ∷ ks) among =
    and_from (list_any (is_same k) terms) (are_terms terms ks)
    (among k (ap (λ b. b || list_any (is_same k) ks) (same_itself k)))
    (terms_from terms ks (λ key h. among key (ap (λ b. is_same key k || b) h ∙ or-true (is_same key k))))

-- what one of the queries asks are terms
pub asked_terms : {A : Type 0} (seen : A → Tree) (items : List A) (i : ℕ) (x : A) (terms : List KeyValue)
    → i < length items → x ≡ get_or items i x
    → terms ≡ terms_of (map seen items) → IsTrue (are_terms terms (asked_of (seen x)))
asked_terms seen items i x terms inside is are =
    terms_from terms (asked_of (seen x)) (λ key h.
    ap (list_any (is_same key)) are ∙ among_in_order (flat_map asked_of (map seen items)) key
    ∙ asked_among seen items i x key inside is h)

-- so are keys that it has
pub had_terms : {A : Type 0} (keys_of : Tree → List KeyValue) → AreAsked keys_of → (seen : A
    → Tree) (items : List A) (i : ℕ) (x : A) (terms keys : List KeyValue)
    → i < length items → x ≡ get_or items i x → terms ≡ terms_of (map seen items)
    → ((key : KeyValue) → list_any (is_same key) keys ≡ list_any (is_same key) (keys_of (seen x)))
    → IsTrue (are_terms terms keys)
had_terms keys_of asked seen items i x terms keys inside is are same =
    terms_from terms keys (λ key h.
    ap (list_any (is_same key)) are ∙ among_in_order (flat_map asked_of (map seen items)) key
    ∙ asked_among seen items i x key inside is (asked key (seen x) (sym (same key) ∙ h)))

-- its keys, its second keys and its words
abbrev pub AreTermsOf : List KeyValue → Tree → Type 0
AreTermsOf terms tree = IsTrue (are_terms terms (query_keys tree)) × IsTrue (are_terms terms (second_keys tree))
    × IsTrue (are_terms terms (word_keys tree))

pub asked_parts : (terms : List KeyValue) (tree : Tree) → IsTrue (are_terms terms (asked_of tree))
    → AreTermsOf terms tree
asked_parts terms tree h =
    let words = are_parts terms (query_keys tree ++ second_keys tree) (word_keys tree) h in
    let keys = are_parts terms (query_keys tree) (second_keys tree) words.0 in
    (keys.0, keys.1, words.1)

-- one of the keys that are terms is a term
pub key_term : (terms : List KeyValue) (ks : List Key) (i : ℕ) (key : Key) → IsTrue (are_terms terms (map key_of ks))
    → i < length ks → key ≡ get_or ks i key
    → IsTrue (are_terms terms (key_of key ∷ []))
key_term terms [] i key h inside is = absurd (omega arith)
key_term terms (k ∷ ks) zero key h inside is =
    subst (λ (x : Key). IsTrue (are_terms terms (key_of x ∷ []))) (sym is)
    (are_parts terms (key_of k ∷ []) (map key_of ks) h).0
key_term terms (k ∷ ks) (suc i) key h inside is =
    key_term terms ks i key (are_parts terms (key_of k ∷ []) (map key_of ks) h).1 (omega arith) is
