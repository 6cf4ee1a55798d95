-- A query's keys cover the articles of which it holds.
use Rattle.std.proofs.Common.{◌≡◌, ℕ, Bool, true, false, ◌&&◌, ◌||◌, cond, ltb, List, [], ◌∷◌, ◌++◌, map, drop, length}
use Rattle.std.proofs.Common.{fold, Some, unwrap_or, flat_map, refl, sym, ap, ◌∙◌, subst}
use Rattle.std.specs.FinMap as finite
use Rattle.std.specs.List.{list_any, list_all, starts_with}
use Rattle.std.specs.Str.{bytes_eq}
use Rattle.std.specs.Ordering.{eq_by_cmp}
use Rattle.std.specs.Cmp.{Equal-is}
use Rattle.std.proofs.lemmas.Bool.{or_left, or_right, and_parts, and_from, false≢true}
use Rattle.std.proofs.lemmas.List.Folds.{list_any-append}
use Rattle.std.proofs.lemmas.Slice.Eq.{bytes_eq-Decides, starts_is}
use Rattle.std.proofs.lemmas.Bool.Decides.{Decides-eqb}
use Rattle.clip_words.specs.Order.{bytes_cmp}
use Rattle.clip_grammar.specs.Tree.{Tree, Clauses, none, clause}
use Rattle.clip_grammar.specs.declared.query.Occur.TheVariants.{Must, Should, MustNot}
use Rattle.clip_grammar.proofs.Booleans.{either}
use Rattle.clip_meaning.specs.Article.{Fields, words_in}
use Rattle.clip_meaning.proofs.Fields.{bytes_exact}
use Rattle.clip_meaning.specs.Meaning.{holds, begins_with, verdicts, group_holds, has_run, is_nonempty, meets_must}
use Rattle.clip_meaning.specs.Meaning.{meets_must_not, meets_should, is_must}
use Rattle.clip_extract.specs.Keys.{KeyValue, Any, Word, Front, in_order, is_same, share}
use Rattle.clip_extract.specs.Fronts.{key_front, fronts}
use Rattle.clip_extract.specs.Extraction.{Extracted, unnarrowed, word_extract, front_extract, heavier, together}
use Rattle.clip_extract.specs.Extraction.{heaviest, union, musts, shoulds, group_extract, extract, extracts}
use Rattle.clip_extract.specs.Extraction.{without_heaviest, is_word, only_words, second_extract}
use Rattle.clip_extract.specs.Covering.{field_keys, front_keys, Covers, CoversTwice}
use Rattle.clip_extract.proofs.FrontsOfWords.{front_of_longer}
use Rattle.clip_extract.proofs.Order.{same_itself, share_in_order, nothing_in_order}

-- the word is one of these
abbrev pub is_word_of : List (List ℕ) → List ℕ → Bool
is_word_of words word = list_any (λ w. bytes_eq w word) words

-- the article has the key
abbrev has_key : Fields → KeyValue → Bool
has_key fields Any = true
has_key fields (Word field word) = is_word_of (words_in fields field) word
has_key fields (Front field front) = is_word_of (flat_map fronts (words_in fields field)) front

-- the article has one of the keys
abbrev covers : Fields → Extracted → Bool
covers fields e = list_any (has_key fields) e.keys

-- ---- joining

heavier_covers : (fields : Fields) (a b : Extracted) → covers fields a ≡ true → covers fields b ≡ true
    → covers fields (heavier a b) ≡ true
heavier_covers fields a b p q =
    elim (ltb a.weight b.weight) as (λ t. covers fields (cond t b a) ≡ true) [ true ↦ q | false ↦ p ]

fold_heavier_covers : (fields : Fields) (e : Extracted) (es : List Extracted) → covers fields e ≡ true
    → list_all (covers fields) es ≡ true → covers fields (fold heavier e es) ≡ true
fold_heavier_covers fields e [] p all = p
fold_heavier_covers fields e (f ∷ es) p all =
    let parts = and_parts (covers fields f) (list_all (covers fields) es) all in
    fold_heavier_covers fields (heavier e f) es (heavier_covers fields e f p parts.0) parts.1

heaviest_covers : (fields : Fields) (es : List Extracted) (other : Extracted) → covers fields other ≡ true
    → list_all (covers fields) es ≡ true → covers fields (unwrap_or (heaviest es) other) ≡ true
heaviest_covers fields [] other p all = p
heaviest_covers fields (e ∷ es) other p all =
    let parts = and_parts (covers fields e) (list_all (covers fields) es) all in
    fold_heavier_covers fields e es parts.0 parts.1

together_covers : (fields : Fields) (a b : Extracted) → covers fields (together a b)
    ≡ (covers fields a || covers fields b)
together_covers fields a b = list_any-append (has_key fields) a.keys b.keys

fold_together_covers : (fields : Fields) (e : Extracted) (es : List Extracted)
    → (covers fields e || list_any (covers fields) es) ≡ true → covers fields (fold together e es) ≡ true
fold_together_covers fields e [] any = either (covers fields e) false any (λ p. p) (λ p. absurd (false≢true p))
fold_together_covers fields e (f ∷ es) any =
    fold_together_covers fields (together e f) es
    (either (covers fields e) _ any
    (λ p. or_left (covers fields (together e f)) _ (together_covers fields e f ∙ or_left (covers fields e) _ p))
    (λ p. either (covers fields f) _ p
    (λ q. or_left (covers fields (together e f)) _ (together_covers fields e f ∙ or_right (covers fields e) _ q))
    (λ q. or_right (covers fields (together e f)) _ q)))

union_covers : (fields : Fields) (es : List Extracted) → list_any (covers fields) es ≡ true
    → covers fields (unwrap_or (union es) unnarrowed) ≡ true
union_covers fields [] any = refl
union_covers fields (e ∷ es) any = fold_together_covers fields e es any

-- ---- phrases

in_longer : (w : List ℕ) (ws ps : List (List ℕ)) → list_all (is_word_of ws) ps ≡ true
    → list_all (is_word_of (w ∷ ws)) ps ≡ true
in_longer w ws [] all = refl
in_longer w ws (p ∷ ps) all =
    let parts = and_parts (is_word_of ws p) (list_all (is_word_of ws) ps) all in
    and_from (is_word_of (w ∷ ws) p) _ (or_right (bytes_eq w p) _ parts.0) (in_longer w ws ps parts.1)

in_front : (ps rest : List (List ℕ)) → list_all (is_word_of (ps ++ rest)) ps ≡ true
in_front [] rest = refl
in_front (p ∷ ps) rest =
    and_from (is_word_of (p ∷ ps ++ rest) p) _ (or_left (bytes_eq p p) _ ((bytes_eq-Decides p p).1 refl))
    (in_longer p (ps ++ rest) ps (in_front ps rest))

run_covers : (ws ps : List (List ℕ)) → has_run ws ps ≡ true → list_all (is_word_of ws) ps ≡ true
run_covers [] ps run = absurd (false≢true run)
run_covers (w ∷ ws) ps run =
    either (starts_with bytes_eq (w ∷ ws) ps) (has_run ws ps) run
    (λ e. let is = (starts_is bytes_eq-Decides (w ∷ ws) ps true (sym e)).0 refl in
    subst (λ (xs : List (List ℕ)). list_all (is_word_of xs) ps
    ≡ true) (sym is) (in_front ps (drop (length ps) (w ∷ ws))))
    (λ e. in_longer w ws ps (run_covers ws ps e))

words_cover : (fields : Fields) (field : List ℕ) (ps : List (List ℕ))
    → list_all (is_word_of (words_in fields field)) ps ≡ true → list_all (covers fields) (map (word_extract field) ps)
    ≡ true
words_cover fields field [] all = refl
words_cover fields field (p ∷ ps) all =
    let parts = and_parts (is_word_of (words_in fields field) p) (list_all (is_word_of (words_in fields field)) ps) all
    in
    and_from (covers fields (word_extract field p)) _ (or_left (is_word_of (words_in fields field) p) false parts.0)
    (words_cover fields field ps parts.1)

-- ---- prefixes

pub front_among : (front : List ℕ) (b : ℕ) (bs : List ℕ) (ws : List (List ℕ)) → key_front front ≡ b ∷ bs
    → list_any (begins_with front) ws ≡ true → is_word_of (flat_map fronts ws) (key_front front) ≡ true
front_among front b bs [] some h = absurd (false≢true h)
front_among front b bs (w ∷ ws) some h =
    list_any-append (λ p. bytes_eq p (key_front front)) (fronts w) (flat_map fronts ws)
    ∙ either (begins_with front w) (list_any (begins_with front) ws) h
    (λ e. let is = (starts_is Decides-eqb w front true (sym e)).0 refl in
    or_left (is_word_of (fronts w) (key_front front)) _
    (ap (λ word. is_word_of (fronts word) (key_front front)) is
    ∙ front_of_longer front (drop (length front) w) b bs some))
    (λ e. or_right (is_word_of (fronts w) (key_front front)) _ (front_among front b bs ws some e))

prefix_covers : (fields : Fields) (field front found : List ℕ) → key_front front ≡ found
    → list_any (begins_with front) (words_in fields field) ≡ true → covers fields (front_extract field found) ≡ true
prefix_covers fields field front [] is h = refl
prefix_covers fields field front (b ∷ bs) is h =
    or_left (is_word_of (flat_map fronts (words_in fields field)) (b ∷ bs)) false
    (ap (is_word_of (flat_map fronts (words_in fields field))) (sym is)
    ∙ front_among front b bs (words_in fields field) is h)

-- ---- groups

no_musts : (cs : Clauses) (fields : Fields) → musts (extracts cs) ≡ [] → list_any is_must (verdicts cs fields) ≡ false
no_musts none fields e = refl
no_musts (clause Must t cs) fields e = absurd (false≢true (ap is_none e))
  where
    is_none : List Extracted → Bool
    is_none [] = true
    is_none (x ∷ xs) = false
no_musts (clause Should t cs) fields e = no_musts cs fields e
no_musts (clause MustNot t cs) fields e = no_musts cs fields e

-- where there is a Must child, the heaviest of them; else all Should children
rule_covers : (fields : Fields) (es fs : List Extracted) → list_all (covers fields) es ≡ true
    → (es ≡ [] → list_any (covers fields) fs ≡ true)
    → covers fields (unwrap_or (heaviest es) (unwrap_or (union fs) unnarrowed)) ≡ true
rule_covers fields [] fs all any = union_covers fields fs (any refl)
rule_covers fields (e ∷ es) fs all any =
    let parts = and_parts (covers fields e) (list_all (covers fields) es) all in
    fold_heavier_covers fields e es parts.0 parts.1

group_covers : (cs : Clauses) (fields : Fields)
    → (list_all meets_must (verdicts cs fields) ≡ true → list_all (covers fields) (musts (extracts cs)) ≡ true)
    → (list_any meets_should (verdicts cs fields) ≡ true → list_any (covers fields) (shoulds (extracts cs)) ≡ true)
    → group_holds (verdicts cs fields) ≡ true → covers fields (group_extract (extracts cs)) ≡ true
unfolding group_holds group_extract
group_covers cs fields must should h =
    let parts = and_parts (list_all meets_must (verdicts cs fields) && list_all meets_must_not (verdicts cs fields))
    (list_any is_must (verdicts cs fields) || list_any meets_should (verdicts cs fields)) h in
    let all = and_parts (list_all meets_must (verdicts cs fields)) (list_all meets_must_not (verdicts cs fields))
    parts.0 in
    rule_covers fields (musts (extracts cs)) (shoulds (extracts cs)) (must all.0)
    (λ e. either (list_any is_must (verdicts cs fields)) (list_any meets_should (verdicts cs fields)) parts.1
    (λ p. absurd (false≢true (sym (no_musts cs fields e) ∙ p)))
    should)

mutual
  tree_covers : (tree : Tree) (fields : Fields) → holds tree fields ≡ true → covers fields (extract tree) ≡ true
  tree_covers (Tree.Term field word) fields h = or_left (is_word_of (words_in fields field) word) false h
  tree_covers (Tree.Phrase field words) fields h =
      let parts = and_parts (is_nonempty words) (has_run (words_in fields field) words) h in
      heaviest_covers fields (map (word_extract field) words) unnarrowed refl
      (words_cover fields field words (run_covers (words_in fields field) words parts.1))
  tree_covers (Tree.Prefix field front) fields h = prefix_covers fields field front (key_front front) refl h
  tree_covers (Tree.Span field low high) fields h = refl
  tree_covers Tree.All fields h = refl
  tree_covers (Tree.Group clauses) fields h =
      group_covers clauses fields (musts_cover clauses fields) (shoulds_cover clauses fields) h

  musts_cover : (cs : Clauses) (fields : Fields) → list_all meets_must (verdicts cs fields) ≡ true
      → list_all (covers fields) (musts (extracts cs)) ≡ true
  musts_cover none fields all = refl
  musts_cover (clause Must t cs) fields all =
      let parts = and_parts (holds t fields) (list_all meets_must (verdicts cs fields)) all in
      and_from (covers fields (extract t)) _ (tree_covers t fields parts.0) (musts_cover cs fields parts.1)
  musts_cover (clause Should t cs) fields all = musts_cover cs fields all
  musts_cover (clause MustNot t cs) fields all = musts_cover cs fields all

  shoulds_cover : (cs : Clauses) (fields : Fields) → list_any meets_should (verdicts cs fields) ≡ true
      → list_any (covers fields) (shoulds (extracts cs)) ≡ true
  shoulds_cover none fields any = any
  shoulds_cover (clause Must t cs) fields any = shoulds_cover cs fields any
  shoulds_cover (clause Should t cs) fields any =
      either (holds t fields) (list_any meets_should (verdicts cs fields)) any
      (λ p. or_left (covers fields (extract t)) _ (tree_covers t fields p))
      (λ p. or_right (covers fields (extract t)) _ (shoulds_cover cs fields p))
  shoulds_cover (clause MustNot t cs) fields any = shoulds_cover cs fields any

-- ---- the article's keys

abbrev keys_of : (List ℕ → List ℕ → KeyValue) → (List (List ℕ) → List (List ℕ)) → List ℕ × List (List ℕ) → List KeyValue
keys_of key texts field = map (key field.0) (texts field.1)

pub text_among : (key : List ℕ → KeyValue) (text : List ℕ) (ts : List (List ℕ)) → is_word_of ts text ≡ true
    → list_any (is_same (key text)) (map key ts) ≡ true
text_among key text [] h = absurd (false≢true h)
text_among key text (t ∷ ts) h =
    either (bytes_eq t text) (is_word_of ts text) h
    (λ e. or_left (is_same (key text) (key t)) _ (ap (λ v. is_same (key text) (key v)) ((bytes_eq-Decides t text).0 e)
    ∙ same_itself (key text)))
    (λ e. or_right (is_same (key text) (key t)) _ (text_among key text ts e))

-- a text that some words of a field give is among the keys of these texts in all fields
module _ (key : List ℕ → List ℕ → KeyValue) (texts : List (List ℕ) → List (List ℕ)) (none : texts []
    ≡ []) (field text : List ℕ) where
  key_among : (es : List (List ℕ × List (List ℕ)))
      → is_word_of (texts (unwrap_or (finite.find bytes_cmp field es) [])) text ≡ true
      → list_any (is_same (key field text)) (flat_map (keys_of key texts) es) ≡ true
  key_among [] h = absurd (false≢true (ap (λ ts. is_word_of ts text) (sym none) ∙ h))
  key_among (e ∷ es) h =
      list_any-append (is_same (key field text)) (keys_of key texts e) (flat_map (keys_of key texts) es)
      ∙ elim (eq_by_cmp bytes_cmp field e.0) as (λ b. eq_by_cmp bytes_cmp field e.0 ≡ b
      → is_word_of (texts (unwrap_or (cond b (Some e.1) (finite.find bytes_cmp field es)) [])) text ≡ true
      → (list_any (is_same (key field text)) (keys_of key texts e)
      || list_any (is_same (key field text)) (flat_map (keys_of key texts) es)) ≡ true) [
        | true ↦ λ t h. or_left (list_any (is_same (key field text)) (keys_of key texts e)) _
            (ap (λ f. list_any (is_same (key field text)) (map (key f) (texts e.1)))
            (sym (bytes_exact field e.0 ((Equal-is (bytes_cmp field e.0)).0 t)))
            ∙ text_among (key field) text (texts e.1) h)
        | false ↦ λ t h. or_right (list_any (is_same (key field text)) (keys_of key texts e)) _ (key_among es h)
      ] refl h

  field_among : (fields : Fields) → is_word_of (texts (words_in fields field)) text ≡ true
      → list_any (is_same (key field text)) (flat_map (keys_of key texts) (finite.entries fields)) ≡ true
  field_among fields h = key_among (finite.entries fields)
      (ap (λ o. is_word_of (texts (unwrap_or o [])) text) (sym (finite.get-entries fields field)) ∙ h)

-- an article's keys before they are put in order
abbrev pub all_keys : Fields → List KeyValue
all_keys fields = Any ∷ flat_map field_keys (finite.entries fields) ++ flat_map front_keys (finite.entries fields)

has_among : (fields : Fields) (k : KeyValue) → has_key fields k ≡ true → list_any (is_same k) (all_keys fields) ≡ true
has_among fields k h =
    list_any-append (is_same k) (Any ∷ flat_map field_keys (finite.entries fields))
    (flat_map front_keys (finite.entries fields)) ∙ at k h
  where
    at : (k : KeyValue) → has_key fields k ≡ true
        → (list_any (is_same k) (Any ∷ flat_map field_keys (finite.entries fields))
        || list_any (is_same k) (flat_map front_keys (finite.entries fields))) ≡ true
    at Any h = refl
    at (Word field word) h =
        or_left (list_any (is_same (Word field word)) (flat_map field_keys (finite.entries fields))) _
        (field_among Word (λ words. words) refl field word fields h)
    at (Front field front) h =
        or_right (list_any (is_same (Front field front)) (flat_map field_keys (finite.entries fields))) _
        (field_among Front (flat_map fronts) refl field front fields h)

share_of_covers : (fields : Fields) (ks : List KeyValue) → list_any (has_key fields) ks ≡ true
    → share ks (all_keys fields) ≡ true
share_of_covers fields [] h = absurd (false≢true h)
share_of_covers fields (k ∷ ks) h =
    either (has_key fields k) (list_any (has_key fields) ks) h
    (λ e. or_left (list_any (is_same k) (all_keys fields)) _ (has_among fields k e))
    (λ e. or_right (list_any (is_same k) (all_keys fields)) _ (share_of_covers fields ks e))

pub covering : Covers
covering tree fields h =
    share_in_order (extract tree).keys (all_keys fields)
    ∙ share_of_covers fields (extract tree).keys (tree_covers tree fields h)

-- ---- second keys

left_cover : (fields : Fields) (es : List Extracted) → list_all (covers fields) es ≡ true
    → list_all (covers fields) (without_heaviest es) ≡ true
left_cover fields [] all = refl
left_cover fields (e ∷ es) all =
    let parts = and_parts (covers fields e) (list_all (covers fields) es) all in
    elim (list_any (λ f. ltb e.weight f.weight) es)
    as (λ t. list_all (covers fields) (cond t (e ∷ without_heaviest es) es) ≡ true) [
      | true ↦ and_from (covers fields e) _ parts.0 (left_cover fields es parts.1)
      | false ↦ parts.1
    ]

words_cover_too : (fields : Fields) (ks : List KeyValue) → list_any (has_key fields) ks ≡ true → ¬ (only_words ks ≡ [])
    → list_any (has_key fields) (only_words ks) ≡ true
words_cover_too fields ks all some =
    elim (list_all is_word ks) as (λ t. ¬ (cond t ks [] ≡ []) → list_any (has_key fields) (cond t ks []) ≡ true) [
      | true ↦ λ some. all
      | false ↦ λ some. absurd (some refl)
    ] some

second_covers : (tree : Tree) (fields : Fields) → holds tree fields ≡ true → ¬ (second_extract tree ≡ [])
    → list_any (has_key fields) (second_extract tree) ≡ true
unfolding group_holds
second_covers (Tree.Group clauses) fields h some =
    let parts = and_parts (list_all meets_must (verdicts clauses fields)
    && list_all meets_must_not (verdicts clauses fields)) (list_any is_must (verdicts clauses fields)
    || list_any meets_should (verdicts clauses fields)) h in
    let all = and_parts (list_all meets_must (verdicts clauses fields))
    (list_all meets_must_not (verdicts clauses fields)) parts.0 in
    let left = without_heaviest (musts (extracts clauses)) in
    words_cover_too fields (unwrap_or (heaviest left) unnarrowed).keys
    (heaviest_covers fields left unnarrowed refl
    (left_cover fields (musts (extracts clauses)) (musts_cover clauses fields all.0))) some
second_covers _ fields h some = absurd (some refl)

pub covering_twice : CoversTwice
covering_twice tree fields h some =
    share_in_order (second_extract tree) (all_keys fields)
    ∙ share_of_covers fields (second_extract tree)
    (second_covers tree fields h (λ none. some (ap in_order none ∙ nothing_in_order)))
