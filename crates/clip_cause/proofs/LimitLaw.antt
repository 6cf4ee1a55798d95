-- A request has no fault of a limit exactly where it is within the limits.
use Rattle.std.proofs.Common.{◌≡◌, ◌⊎◌, inl, inr, ℕ, suc, ◌||◌, ◌&&◌, List, [], ◌∷◌, length, map, Bool, true, false}
use Rattle.std.proofs.Common.{cond, Option, Some, None, option_map, bytes_eq, refl, sym, ap, ◌∙◌, arith}
use Rattle.std.proofs.lemmas.Bool.Decides.{nat_tests}
use Rattle.std.proofs.lemmas.Map.Text.{is_eq-slice_cmp}
use Rattle.std.specs.List.{list_all, list_any}
use Rattle.std.specs.Ordering.{is_eq}
use Rattle.std.specs.Prelude.{codes, nat_le, nat_lt}
use Rattle.serde_json.specs.Data.{Data, string}
use Rattle.serde_json.specs.View.{items_of}
use Rattle.clip_words.specs.Ids.{is_id}
use Rattle.clip_meaning.specs.Article.{fault_of, has_twice, is_field_name, may_be, names}
use Rattle.clip_meaning.specs.declared.fault.TheConstants.{MOST_FIELDS}
use Rattle.clip_model.specs.declared.limits.TheConstants.{MOST_ARTICLES, MOST_LISTED}
use Rattle.clip_protocol.specs.Request.{Draft, Request, register, delete, clear, purge, count, show, match}
use Rattle.clip_protocol.specs.Request.{members_from, listing_value, field_value, draft_value, value_of, within}
use Rattle.clip_cause.specs.Names.{articles, fields, ids, queries}
use Rattle.clip_cause.specs.Limits.{at_itself, wrong_of_id, id_fault, id_in, field_names_fault, fields_fault}
use Rattle.clip_cause.specs.Limits.{draft_fault, each_fault, listed_fault, limit_fault}
use Rattle.clip_cause.specs.Steps.Ordered.{IsBefore, IsBeforeAll, IsOrdered, AreOrdered, AreMembersOrdered}
use Rattle.clip_cause.specs.Faults.{Fault, beneath, in_item, or_else}
use Rattle.clip_cause.specs.declared.wrong.Wrong.{Wrong}
use Rattle.clip_cause.proofs.Options.{some_is_none, passed, both_none, none_mapped, one_of}

-- ---- lists

short_list : (most n : ℕ) → nat_lt most n ≡ false → nat_le n most ≡ true
short_list most n e = grind (arith, nat_tests)

long_list : (most n : ℕ) → nat_lt most n ≡ true → nat_le n most ≡ false
long_list most n e = grind (arith, nat_tests)

each_within : {A : Type 0} (list : List ℕ) (fault : A → Option Fault) (test : A → Bool) (value : A → Data)
    → ((x : A) → IsOrdered (value x) → fault x ≡ None → test x ≡ true) → (place : ℕ) (xs : List A)
    → AreOrdered (items_of (map value xs)) → each_fault list fault place xs ≡ None
    → list_all test xs ≡ true
each_within list fault test value one place [] h e = refl
each_within list fault test value one place (x ∷ xs) h e =
    let p = both_none (in_item list place (fault x)) (each_fault list fault (suc place) xs) e in
    ap (λ b. b && list_all test xs) (one x h.0 (none_mapped _ (fault x) p.0))
    ∙ each_within list fault test value one (suc place) xs h.1 p.1

listed_at : {A : Type 0} (list : List ℕ) (fault : A → Option Fault) (test : A → Bool) (value : A
    → Data) (most : ℕ) (w : Fault) → ((x : A) → IsOrdered (value x) → fault x ≡ None → test x ≡ true)
    → (xs : List A) (b : Bool) → nat_lt most (length xs) ≡ b → AreOrdered (items_of (map value xs))
    → cond b (Some w) (each_fault list fault 0 xs) ≡ None → (nat_le (length xs) most && list_all test xs) ≡ true
listed_at list fault test value most w one xs true is h e = absurd (some_is_none w e)
listed_at list fault test value most w one xs false is h e =
    ap (λ b. b && list_all test xs) (short_list most (length xs) is) ∙ each_within list fault test value one 0 xs h e

listed_within : {A : Type 0} (list : List ℕ) (most : ℕ) (w : Wrong) (fault : A → Option Fault) (test : A
    → Bool) (value : A → Data) → ((x : A) → IsOrdered (value x) → fault x ≡ None → test x ≡ true) → (xs : List A)
    → AreOrdered (items_of (map value xs)) → listed_fault list most w fault xs ≡ None
    → (nat_le (length xs) most && list_all test xs) ≡ true
listed_within list most w fault test value one xs h e =
    listed_at list fault test value most _ one xs (nat_lt most (length xs)) refl h e

-- ---- ids

id_within_at : (b : Bool) (w : Wrong) → beneath (codes "id") (at_itself (cond b None (Some w))) ≡ None → b ≡ true
id_within_at true w e = refl
id_within_at false w e = absurd (some_is_none _ e)

id_within : (id : List ℕ) → id_in id ≡ None → is_id id ≡ true
id_within id e = id_within_at (is_id id) (wrong_of_id id) e

lone_id_at : (b : Bool) (w : Wrong) → at_itself (cond b None (Some w)) ≡ None → b ≡ true
lone_id_at true w e = refl
lone_id_at false w e = absurd (some_is_none _ e)

lone_id_within : (id : List ℕ) → id_fault id ≡ None → is_id id ≡ true
lone_id_within id e = lone_id_at (is_id id) (wrong_of_id id) e

-- ---- articles

field_names_within : (fs : List (List ℕ × List ℕ)) → field_names_fault fs ≡ None → list_all is_field_name (names fs)
    ≡ true
field_names_within [] e = refl
field_names_within (f ∷ fs) e =
    let p = passed (is_field_name f.0) (field_names_fault fs) _ e in
    ap (λ b. b && list_all is_field_name (names fs)) p.0 ∙ field_names_within fs p.1

other : (n k : List ℕ) → IsBefore n k → bytes_eq n k ≡ false
other n k b = sym (is_eq-slice_cmp n k) ∙ ap is_eq b

none_other : (n : List ℕ) (fs : List (List ℕ × List ℕ)) → IsBeforeAll n (members_from (map field_value fs))
    → list_any (bytes_eq n) (names fs) ≡ false
none_other n [] h = refl
none_other n (f ∷ fs) h = ap (λ b. b || list_any (bytes_eq n) (names fs)) (other n f.0 h.0) ∙ none_other n fs h.1

once : (fs : List (List ℕ × List ℕ)) → AreMembersOrdered (members_from (map field_value fs))
    → has_twice (names fs) ≡ false
once [] h = refl
once (f ∷ fs) h = ap (λ b. b || has_twice (names fs)) (none_other f.0 fs h.0) ∙ once fs h.1.1

fields_within_at : (b : Bool) (fs : List (List ℕ × List ℕ)) (w : Fault) → cond b (Some w) (field_names_fault fs) ≡ None
    → (b ≡ false) × (list_all is_field_name (names fs) ≡ true)
fields_within_at true fs w e = absurd (some_is_none w e)
fields_within_at false fs w e = (refl, field_names_within fs e)

draft_within : (d : Draft) → IsOrdered (draft_value d) → draft_fault d ≡ None → may_be d.id d.fields ≡ true
unfolding fault_of
draft_within d h e =
    let p = both_none (id_in d.id) (beneath fields (fields_fault d)) e in
    let id = id_within d.id p.0 in
    let f = fields_within_at (nat_lt MOST_FIELDS (length d.fields)) d.fields _ (none_mapped _ (fields_fault d) p.1) in
    let alone = once d.fields h.1.0 in
    rw (id, f.0, f.1, alone)

-- ---- requests

pub within_from_limits : (r : Request) → IsOrdered (value_of r) → limit_fault r ≡ None → within r ≡ true
within_from_limits (register listings) h e =
    listed_within queries MOST_LISTED _ (λ l. id_in l.id) (λ l. is_id l.id) listing_value (λ l ordered. id_within l.id)
    listings h.1.1.1.0 e
within_from_limits (delete listed) h e =
    listed_within ids MOST_LISTED _ id_fault is_id string (λ id ordered. lone_id_within id) listed h.1.0 e
within_from_limits clear h e = refl
within_from_limits purge h e = refl
within_from_limits count h e = refl
within_from_limits (show id) h e = id_within id e
within_from_limits (match drafts) h e =
    listed_within articles MOST_ARTICLES _ draft_fault (λ d. may_be d.id d.fields) draft_value draft_within drafts
    h.1.0 e

-- ---- what is beyond a limit

and_false : (b : Bool) → (b && false) ≡ false
and_false true = refl
and_false false = refl

each_beyond_at : {A : Type 0} (list : List ℕ) (fault : A → Option Fault) (test : A
    → Bool) (place : ℕ) (x : A) (xs : List A) (f : Fault) (o : Option Fault) → fault x ≡ o
    → ((g : Fault) → fault x ≡ Some g → test x ≡ false)
    → (each_fault list fault (suc place) xs ≡ Some f → list_all test xs ≡ false)
    → or_else (in_item list place o) (each_fault list fault (suc place) xs) ≡ Some f → (test x && list_all test xs)
    ≡ false
each_beyond_at list fault test place x xs f None is one more e = ap (λ b. test x && b) (more e) ∙ and_false (test x)
each_beyond_at list fault test place x xs f (Some g) is one more e = ap (λ b. b && list_all test xs) (one g is)

each_beyond : {A : Type 0} (list : List ℕ) (fault : A → Option Fault) (test : A → Bool)
    → ((x : A) (g : Fault) → fault x ≡ Some g → test x ≡ false) → (place : ℕ) (xs : List A) (f : Fault)
    → each_fault list fault place xs ≡ Some f → list_all test xs ≡ false
each_beyond list fault test one place [] f e = cc
each_beyond list fault test one place (x ∷ xs) f e =
    each_beyond_at list fault test place x xs f (fault x) refl (one x)
    (each_beyond list fault test one (suc place) xs f) e

beyond_at : {A : Type 0} (list : List ℕ) (fault : A → Option Fault) (test : A → Bool) (most : ℕ) (w : Fault)
    → ((x : A) (g : Fault) → fault x ≡ Some g → test x ≡ false) → (xs : List A) (f : Fault) (b : Bool)
    → nat_lt most (length xs) ≡ b
    → cond b (Some w) (each_fault list fault 0 xs) ≡ Some f → (nat_le (length xs) most && list_all test xs) ≡ false
beyond_at list fault test most w one xs f true is e = ap (λ b. b && list_all test xs) (long_list most (length xs) is)
beyond_at list fault test most w one xs f false is e =
    ap (λ b. nat_le (length xs) most && b) (each_beyond list fault test one 0 xs f e) ∙ and_false _

listed_beyond : {A : Type 0} (list : List ℕ) (most : ℕ) (w : Wrong) (fault : A → Option Fault) (test : A → Bool)
    → ((x : A) (g : Fault) → fault x ≡ Some g → test x ≡ false) → (xs : List A) (f : Fault)
    → listed_fault list most w fault xs ≡ Some f
    → (nat_le (length xs) most && list_all test xs) ≡ false
listed_beyond list most w fault test one xs f e =
    beyond_at list fault test most _ one xs f (nat_lt most (length xs)) refl e

id_beyond_at : (b : Bool) (w : Wrong) (g : Fault) → beneath (codes "id") (at_itself (cond b None (Some w))) ≡ Some g
    → b ≡ false
id_beyond_at true w g e = cc
id_beyond_at false w g e = refl

id_beyond : (id : List ℕ) (g : Fault) → id_in id ≡ Some g → is_id id ≡ false
id_beyond id g e = id_beyond_at (is_id id) (wrong_of_id id) g e

lone_id_beyond_at : (b : Bool) (w : Wrong) (g : Fault) → at_itself (cond b None (Some w)) ≡ Some g → b ≡ false
lone_id_beyond_at true w g e = cc
lone_id_beyond_at false w g e = refl

lone_id_beyond : (id : List ℕ) (g : Fault) → id_fault id ≡ Some g → is_id id ≡ false
lone_id_beyond id g e = lone_id_beyond_at (is_id id) (wrong_of_id id) g e

field_names_beyond_at : (b : Bool) (fs : List (List ℕ × List ℕ)) (g w : Fault)
    → (field_names_fault fs ≡ Some g → list_all is_field_name (names fs) ≡ false)
    → cond b (field_names_fault fs) (Some w) ≡ Some g → (b && list_all is_field_name (names fs)) ≡ false
field_names_beyond_at true fs g w more e = more e
field_names_beyond_at false fs g w more e = refl

field_names_beyond : (fs : List (List ℕ × List ℕ)) (g : Fault) → field_names_fault fs ≡ Some g
    → list_all is_field_name (names fs) ≡ false
field_names_beyond [] g e = cc
field_names_beyond (f ∷ fs) g e = field_names_beyond_at (is_field_name f.0) fs g _ (field_names_beyond fs g) e

-- the fields are too many, or a name may be none
fields_beyond_at : (b : Bool) (fs : List (List ℕ × List ℕ)) (w g : Fault) → cond b (Some w) (field_names_fault fs)
    ≡ Some g → (b ≡ true) ⊎ (list_all is_field_name (names fs) ≡ false)
fields_beyond_at true fs w g e = inl refl
fields_beyond_at false fs w g e = inr (field_names_beyond fs g e)

unmapped : {A B : Type 0} (f : A → B) (o : Option A) (y : B) → option_map f o ≡ Some y → (x : A) × (o ≡ Some x)
unmapped f None y e = cc
unmapped f (Some x) y e = (x, refl)

may_not_for_id : (d : Draft) → is_id d.id ≡ false → may_be d.id d.fields ≡ false
unfolding fault_of
may_not_for_id d e = rw e

may_not_for_count_at : (b : Bool) (d : Draft) → is_id d.id ≡ b → nat_lt MOST_FIELDS (length d.fields) ≡ true
    → may_be d.id d.fields ≡ false
unfolding fault_of
may_not_for_count_at true d is e = rw (is, e)
may_not_for_count_at false d is e = rw is

may_not_for_names_at : (a b : Bool) (d : Draft) → is_id d.id ≡ a → nat_lt MOST_FIELDS (length d.fields) ≡ b
    → list_all is_field_name (names d.fields) ≡ false → may_be d.id d.fields ≡ false
unfolding fault_of
may_not_for_names_at false b d is many e = rw is
may_not_for_names_at true true d is many e = rw (is, many)
may_not_for_names_at true false d is many e = rw (is, many, e)

may_not_for_fields : (d : Draft) → (nat_lt MOST_FIELDS (length d.fields) ≡ true)
    ⊎ (list_all is_field_name (names d.fields) ≡ false) → may_be d.id d.fields ≡ false
may_not_for_fields d (inl e) = may_not_for_count_at (is_id d.id) d refl e
may_not_for_fields d (inr e) = may_not_for_names_at (is_id d.id) (nat_lt MOST_FIELDS (length d.fields)) d refl refl e

draft_beyond_by : (d : Draft) (g : Fault) → (id_in d.id ≡ Some g)
    ⊎ ((id_in d.id ≡ None) × (beneath fields (fields_fault d) ≡ Some g)) → may_be d.id d.fields ≡ false
draft_beyond_by d g (inl e) = may_not_for_id d (id_beyond d.id g e)
draft_beyond_by d g (inr e) =
    let w = unmapped _ (fields_fault d) g e.1 in
    may_not_for_fields d (fields_beyond_at (nat_lt MOST_FIELDS (length d.fields)) d.fields _ w.0 w.1)

draft_beyond : (d : Draft) (g : Fault) → draft_fault d ≡ Some g → may_be d.id d.fields ≡ false
draft_beyond d g e = draft_beyond_by d g (one_of (id_in d.id) (beneath fields (fields_fault d)) g e)

pub within_from_fault : (r : Request) (f : Fault) → limit_fault r ≡ Some f → within r ≡ false
within_from_fault (register listings) f e =
    listed_beyond queries MOST_LISTED _ (λ l. id_in l.id) (λ l. is_id l.id) (λ l. id_beyond l.id) listings f e
within_from_fault (delete listed) f e = listed_beyond ids MOST_LISTED _ id_fault is_id lone_id_beyond listed f e
within_from_fault clear f e = cc
within_from_fault purge f e = cc
within_from_fault count f e = cc
within_from_fault (show id) f e = id_beyond id f e
within_from_fault (match drafts) f e =
    listed_beyond articles MOST_ARTICLES _ draft_fault (λ d. may_be d.id d.fields) draft_beyond drafts f e
