-- What holds in the worst case holds of every article, and what holds of some article holds in the best case.
use Rattle.std.proofs.Common.{◌≡◌, ℕ, Bool, true, false, not, cond, ◌&&◌, ◌||◌, List, [], ◌∷◌, map, nat_lt, length}
use Rattle.std.proofs.Common.{Option, Some, None, unwrap_or, is_lt, is_gt, Ordering, Less, Equal, Greater}
use Rattle.std.proofs.Common.{refl, sym, ap, subst, ◌∙◌, ◌⊎◌, inl, inr}
use Rattle.std.specs.Option.{is_none}
use Rattle.std.specs.Prelude.{String, string_bytes}
use Rattle.std.specs.Global.{Global}
use Rattle.std.specs.Str.{IsUtf8}
use Rattle.std.proofs.lemmas.Str.{IsUtf8-string_bytes}
use Rattle.clip_meaning.specs.Article.{pairs_of}
use Rattle.clip_explain.specs.Certain.{is_led, begins_no_word}
use Rattle.clip_explain.proofs.Parting.{front_whole}
use Rattle.clip_explain.proofs.Leading.{front_unled}
use Rattle.std.specs.Ordering.{eq_by_cmp}
use Rattle.std.specs.List.{list_any, list_all}
use Rattle.std.specs.Str.{bytes_eq}
use Rattle.std.specs.FinMap as finite
use Rattle.std.specs.FinMap.{find, get-from_entries}
use Rattle.std.specs.Cmp.Lexicographic.{nat_list_cmp_total}
use Rattle.std.specs.Cmp.{Equal-is}
use Rattle.std.proofs.lemmas.Bool.{and_parts, and_from, or_left, or_right, not-true, false≢true}
use Rattle.std.proofs.lemmas.Cmp.{upto, alike_right}
use Rattle.clip_words.specs.Ids.{is_id}
use Rattle.clip_words.specs.Order.{bytes_cmp}
use Rattle.clip_words.specs.Words.{words_of}
use Rattle.clip_grammar.specs.Tokens.{End}
use Rattle.clip_grammar.specs.Tree.{Tree, Clauses, none, clause}
use Rattle.clip_grammar.specs.declared.query.Occur.{Occur}
use Rattle.clip_grammar.specs.declared.query.Occur.TheVariants.{Must, Should, MustNot}
use Rattle.clip_grammar.proofs.Booleans.{either}
use Rattle.clip_meaning.proofs.Fields.{bytes_exact}
use Rattle.clip_meaning.specs.declared.fault.TheConstants.{MOST_FIELDS}
use Rattle.clip_meaning.specs.declared.fault.ArticleFault.TheVariants.{Id, TooMany, Field, Twice}
use Rattle.clip_meaning.specs.Article.{Fields, words_in, is_field_name, fault_of, may_be, names, has_twice}
use Rattle.clip_meaning.specs.Article.{read_fields}
use Rattle.clip_meaning.specs.Meaning.{holds, verdicts, group_holds, meets_must, meets_must_not, is_must}
use Rattle.clip_meaning.specs.Meaning.{meets_should, has_run, is_nonempty, begins_with, is_between, above}
use Rattle.clip_meaning.specs.Meaning.{below}
use Rattle.clip_explain.specs.Certain.{is_void, holds_in, verdicts_in, NeverHolds}
use Rattle.clip_explain.specs.Certain.{AlwaysHolds}

-- ---- fields

-- the names of an article's fields may be names
named : (id : List ℕ) (pairs : List (List ℕ × List ℕ)) → may_be id pairs ≡ true
    → list_all is_field_name (names pairs) ≡ true
unfolding fault_of
named id pairs may = at (is_id id) (nat_lt MOST_FIELDS (length pairs)) (list_all is_field_name (names pairs)) refl may
  where
    at : (a b n : Bool) → n ≡ list_all is_field_name (names pairs)
        → is_none
        (cond (not a) (Some Id) (cond b (Some TooMany)
        (cond (not n) (Some Field) (cond (has_twice (names pairs)) (Some Twice) None)))) ≡ true
        → list_all is_field_name (names pairs) ≡ true
    at true false true e h = sym e
    at true false false e h = absurd (false≢true h)
    at true true n e h = absurd (false≢true h)
    at false b n e h = absurd (false≢true h)

abbrev entries_of : List (List ℕ × List ℕ) → List (List ℕ × List (List ℕ))
entries_of pairs = map (λ p. (p.0, words_of p.1)) pairs

-- what is found under a name is the words of a text, and the name may be one
record IsTextOf (field : List ℕ) (found : Option (List (List ℕ))) : Type 0 where
  named : is_field_name field ≡ true
  text : List ℕ
  utf8 : IsUtf8 text
  is : found ≡ Some (words_of text)

abbrev MayBeFound : List ℕ → Option (List (List ℕ)) → Type 0
MayBeFound field found = (found ≡ None) ⊎ IsTextOf field found

found_text : (pairs : List (String Global × String Global)) (field : List ℕ)
    → list_all is_field_name (names (pairs_of pairs)) ≡ true
    → MayBeFound field (find bytes_cmp field (entries_of (pairs_of pairs)))
found_text [] field all = inl refl
found_text (p ∷ pairs) field all =
    let name = string_bytes p.0 in
    let parts = and_parts (is_field_name name) (list_all is_field_name (names (pairs_of pairs))) all in
    at (eq_by_cmp bytes_cmp field name) refl parts.0 (found_text pairs field parts.1)
  where
    at : (b : Bool) → eq_by_cmp bytes_cmp field (string_bytes p.0) ≡ b → is_field_name (string_bytes p.0) ≡ true
        → MayBeFound field (find bytes_cmp field (entries_of (pairs_of pairs)))
        → MayBeFound field
        (cond b (Some (words_of (string_bytes p.1))) (find bytes_cmp field (entries_of (pairs_of pairs))))
    at true e ok rest = inr (record {
      named = ap is_field_name (bytes_exact field (string_bytes p.0) ((Equal-is _).0 e)) ∙ ok;
      text = string_bytes p.1;
      utf8 = IsUtf8-string_bytes p.1;
      is = refl;
    })
    at false e ok rest = rest

-- a field that has no words, or has those of a text and may have its name
abbrev IsPresent : Fields → List ℕ → Type 0
IsPresent fields field = MayBeFound field (finite.get fields field)

present : (id : List ℕ) (pairs : List (String Global × String Global)) (field : List ℕ)
    → may_be id (pairs_of pairs) ≡ true → IsPresent (read_fields (pairs_of pairs)) field
present id pairs field may =
    subst (MayBeFound field) (sym (get-from_entries nat_list_cmp_total (entries_of (pairs_of pairs)) field))
    (found_text pairs field (named id (pairs_of pairs) may))

-- ---- ranges

less_from : (o : Ordering) → is_lt o ≡ true → o ≡ Less
less_from Less e = refl
less_from Equal e = absurd (false≢true e)
less_from Greater e = absurd (false≢true e)

-- from a text up to one that is below a third
up_to_less : (x y z : List ℕ) → is_gt (bytes_cmp x y) ≡ false → bytes_cmp y z ≡ Less → bytes_cmp x z ≡ Less
up_to_less x y z le lt = at (bytes_cmp x y) refl le
  where
    at : (o : Ordering) → bytes_cmp x y ≡ o → is_gt o ≡ false → bytes_cmp x z ≡ Less
    at Less e g = nat_list_cmp_total.trans x y z e lt
    at Equal e g = nat_list_cmp_total.congr x y z e ∙ lt
    at Greater e g = absurd (false≢true (sym g))

-- from a text below another up to a third
less_up_to : (x y z : List ℕ) → bytes_cmp x y ≡ Less → is_gt (bytes_cmp y z) ≡ false → bytes_cmp x z ≡ Less
less_up_to x y z lt le = at (bytes_cmp y z) refl le
  where
    at : (o : Ordering) → bytes_cmp y z ≡ o → is_gt o ≡ false → bytes_cmp x z ≡ Less
    at Less e g = nat_list_cmp_total.trans x y z lt e
    at Equal e g = sym (alike_right nat_list_cmp_total y z x e) ∙ lt
    at Greater e g = absurd (false≢true (sym g))

-- where a word lies between the ends, they are not past each other
not_void : (low high : End) (word : List ℕ) → is_between low high word ≡ true → is_void low high ≡ false
not_void low high word here =
    let parts = and_parts (above low word) (below high word) here in
    at low high parts.0 parts.1
  where
    at : (low high : End) → above low word ≡ true → below high word ≡ true → is_void low high ≡ false
    at (End.With low) (End.With high) a b = upto nat_list_cmp_total low word high (not-true _ a) (not-true _ b)
    at (End.With low) (End.Without high) a b =
        ap (λ o. not (is_lt o)) (up_to_less low word high (not-true _ a) (less_from _ b))
    at (End.Without low) (End.With high) a b =
        ap (λ o. not (is_lt o)) (less_up_to low word high (less_from _ a) (not-true _ b))
    at (End.Without low) (End.Without high) a b =
        ap (λ o. not (is_lt o)) (nat_list_cmp_total.trans low word high (less_from _ a) (less_from _ b))
    at End.Free high a b = refl
    at (End.With low) End.Free a b = refl
    at (End.Without low) End.Free a b = refl

some_between : (low high : End) (words : List (List ℕ)) → list_any (is_between low high) words ≡ true
    → not (is_void low high) ≡ true
some_between low high [] any = absurd (false≢true any)
some_between low high (w ∷ ws) any =
    either (is_between low high w) _ any (λ here. ap not (not_void low high w here))
    (λ later. some_between low high ws later)

-- ---- groups

-- what stands against a clause stands no more against it
abbrev NoWorse : Occur → Bool → Bool → Type 0
NoWorse Must a b = a ≡ true → b ≡ true
NoWorse Should a b = a ≡ true → b ≡ true
NoWorse MustNot a b = b ≡ true → a ≡ true

-- the same clauses, each no worse for the group
abbrev Better : List (Occur × Bool) → List (Occur × Bool) → Type 0
Better [] [] = Unit {0}
Better [] (w ∷ ws) = ⊥
Better (v ∷ vs) [] = ⊥
Better (v ∷ vs) (w ∷ ws) = (v.0 ≡ w.0) × NoWorse v.0 v.1 w.1 × Better vs ws

musts_kept : (vs ws : List (Occur × Bool)) → Better vs ws → list_all meets_must vs ≡ true
    → list_all meets_must ws ≡ true
musts_kept [] [] b h = refl
musts_kept [] (w ∷ ws) b h = absurd b
musts_kept (v ∷ vs) [] b h = absurd b
musts_kept ((o, v) ∷ vs) ((p, w) ∷ ws) b h =
    let parts = and_parts (meets_must (o, v)) (list_all meets_must vs) h in
    and_from (meets_must (p, w)) _ (subst (λ q. meets_must (q, w) ≡ true) b.0 (at o b.1 parts.0))
    (musts_kept vs ws b.2 parts.1)
  where
    at : (o : Occur) → NoWorse o v w → meets_must (o, v) ≡ true → meets_must (o, w) ≡ true
    at Must n k = n k
    at Should n k = refl
    at MustNot n k = refl

must_nots_kept : (vs ws : List (Occur × Bool)) → Better vs ws → list_all meets_must_not vs ≡ true
    → list_all meets_must_not ws ≡ true
must_nots_kept [] [] b h = refl
must_nots_kept [] (w ∷ ws) b h = absurd b
must_nots_kept (v ∷ vs) [] b h = absurd b
must_nots_kept ((o, v) ∷ vs) ((p, w) ∷ ws) b h =
    let parts = and_parts (meets_must_not (o, v)) (list_all meets_must_not vs) h in
    and_from (meets_must_not (p, w)) _ (subst (λ q. meets_must_not (q, w) ≡ true) b.0 (at o b.1 parts.0))
    (must_nots_kept vs ws b.2 parts.1)
  where
    turned : (a c : Bool) → (c ≡ true → a ≡ true) → not a ≡ true → not c ≡ true
    turned a false f k = refl
    turned a true f k = absurd (false≢true (ap not (sym (f refl)) ∙ k))

    at : (o : Occur) → NoWorse o v w → meets_must_not (o, v) ≡ true → meets_must_not (o, w) ≡ true
    at Must n k = refl
    at Should n k = refl
    at MustNot n k = turned v w n k

some_must_kept : (vs ws : List (Occur × Bool)) → Better vs ws → list_any is_must vs ≡ true
    → list_any is_must ws ≡ true
some_must_kept [] [] b h = h
some_must_kept [] (w ∷ ws) b h = absurd b
some_must_kept (v ∷ vs) [] b h = absurd b
some_must_kept ((o, v) ∷ vs) ((p, w) ∷ ws) b h =
    either (is_must (o, v)) (list_any is_must vs) h
    (λ k. or_left (is_must (p, w)) _ (subst (λ q. is_must (q, w) ≡ true) b.0 (at o k)))
    (λ k. or_right (is_must (p, w)) _ (some_must_kept vs ws b.2 k))
  where
    at : (o : Occur) → is_must (o, v) ≡ true → is_must (o, w) ≡ true
    at Must k = refl
    at Should k = k
    at MustNot k = k

some_should_kept : (vs ws : List (Occur × Bool)) → Better vs ws → list_any meets_should vs ≡ true
    → list_any meets_should ws ≡ true
some_should_kept [] [] b h = h
some_should_kept [] (w ∷ ws) b h = absurd b
some_should_kept (v ∷ vs) [] b h = absurd b
some_should_kept ((o, v) ∷ vs) ((p, w) ∷ ws) b h =
    either (meets_should (o, v)) (list_any meets_should vs) h
    (λ k. or_left (meets_should (p, w)) _ (subst (λ q. meets_should (q, w) ≡ true) b.0 (at o b.1 k)))
    (λ k. or_right (meets_should (p, w)) _ (some_should_kept vs ws b.2 k))
  where
    at : (o : Occur) → NoWorse o v w → meets_should (o, v) ≡ true → meets_should (o, w) ≡ true
    at Must n k = absurd (false≢true k)
    at Should n k = n k
    at MustNot n k = absurd (false≢true k)

group_kept : (vs ws : List (Occur × Bool)) → Better vs ws → group_holds vs ≡ true → group_holds ws ≡ true
unfolding group_holds
group_kept vs ws b h =
    let outer =
    and_parts (list_all meets_must vs
    && list_all meets_must_not vs) (list_any is_must vs || list_any meets_should vs) h in
    let inner = and_parts (list_all meets_must vs) (list_all meets_must_not vs) outer.0 in
    and_from (list_all meets_must ws && list_all meets_must_not ws) _
    (and_from (list_all meets_must ws) _ (musts_kept vs ws b inner.0) (must_nots_kept vs ws b inner.1))
    (either (list_any is_must vs) (list_any meets_should vs) outer.1
    (λ k. or_left (list_any is_must ws) _ (some_must_kept vs ws b k))
    (λ k. or_right (list_any is_must ws) _ (some_should_kept vs ws b k)))

-- ---- queries

module _ (fields : Fields) (known : (field : List ℕ) → IsPresent fields field) where
  -- a field of which something holds that holds of no field without words has a text
  held_text : (field : List ℕ) (p : List (List ℕ) → Bool) → p [] ≡ false → p (words_in fields field) ≡ true
      → IsTextOf field (finite.get fields field)
  held_text field p nothing h = at (known field)
    where
      at : IsPresent fields field → IsTextOf field (finite.get fields field)
      at (inl e) = absurd (false≢true (sym nothing ∙ ap (λ o. p (unwrap_or o [])) (sym e) ∙ h))
      at (inr e) = e

  held_named : (field : List ℕ) (p : List (List ℕ) → Bool) → p [] ≡ false → p (words_in fields field) ≡ true
      → is_field_name field ≡ true
  held_named field p nothing h = (held_text field p nothing h).named

  -- a front that a word of a field begins with is none with which no word does
  held_front : (field front : List ℕ) → list_any (begins_with front) (words_in fields field) ≡ true
      → not (begins_no_word front) ≡ true
  held_front field front h =
      let has = held_text field (list_any (begins_with front)) refl h in
      let is : words_in fields field ≡ words_of has.text = ap (λ o. unwrap_or o []) has.is in
      let any = ap (list_any (begins_with front)) (sym is) ∙ h in
      ap (λ b. not (b || is_led front)) (front_whole has.text front has.utf8 any)
      ∙ ap not (front_unled has.text front has.utf8 any)

  mutual
    at_best : (tree : Tree) → holds tree fields ≡ true → holds_in tree true ≡ true
    at_best (Tree.Term field word) h = held_named field (list_any (λ w. bytes_eq w word)) refl h
    at_best (Tree.Phrase field words) h =
        let parts = and_parts (is_nonempty words) (has_run (words_in fields field) words) h in
        and_from (is_field_name field) _ (held_named field (λ ws. has_run ws words) refl parts.1) parts.0
    at_best (Tree.Prefix field front) h =
        and_from (is_field_name field) _ (held_named field (list_any (begins_with front)) refl h)
        (held_front field front h)
    at_best (Tree.Span field low high) h =
        and_from (is_field_name field) _ (held_named field (list_any (is_between low high)) refl h)
        (some_between low high (words_in fields field) h)
    at_best Tree.All h = refl
    at_best (Tree.Group clauses) h =
        group_kept (verdicts clauses fields) (verdicts_in clauses true) (clauses_at_best clauses) h

    at_worst : (tree : Tree) → holds_in tree false ≡ true → holds tree fields ≡ true
    at_worst (Tree.Term field word) h = absurd (false≢true h)
    at_worst (Tree.Phrase field words) h = absurd (false≢true h)
    at_worst (Tree.Prefix field front) h = absurd (false≢true h)
    at_worst (Tree.Span field low high) h = absurd (false≢true h)
    at_worst Tree.All h = refl
    at_worst (Tree.Group clauses) h =
        group_kept (verdicts_in clauses false) (verdicts clauses fields) (clauses_at_worst clauses) h

    clauses_at_best : (clauses : Clauses) → Better (verdicts clauses fields) (verdicts_in clauses true)
    clauses_at_best none = tt
    clauses_at_best (clause Must child others) = (refl, at_best child, clauses_at_best others)
    clauses_at_best (clause Should child others) = (refl, at_best child, clauses_at_best others)
    clauses_at_best (clause MustNot child others) = (refl, at_worst child, clauses_at_best others)

    clauses_at_worst : (clauses : Clauses) → Better (verdicts_in clauses false) (verdicts clauses fields)
    clauses_at_worst none = tt
    clauses_at_worst (clause Must child others) = (refl, at_worst child, clauses_at_worst others)
    clauses_at_worst (clause Should child others) = (refl, at_worst child, clauses_at_worst others)
    clauses_at_worst (clause MustNot child others) = (refl, at_best child, clauses_at_worst others)

-- ---- the laws

pub never_holds : NeverHolds
never_holds tree id pairs may never = at (holds tree (read_fields (pairs_of pairs))) refl
  where
    at : (b : Bool) → holds tree (read_fields (pairs_of pairs)) ≡ b → b ≡ false
    at false h = refl
    at true h =
        let best = at_best (read_fields (pairs_of pairs)) (λ field. present id pairs field may) tree h in
        absurd (false≢true (sym (ap not best) ∙ never))

pub always_holds : AlwaysHolds
always_holds tree id pairs may always =
    at_worst (read_fields (pairs_of pairs)) (λ field. present id pairs field may) tree always
