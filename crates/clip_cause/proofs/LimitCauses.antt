-- What a fault of a limit says is so.
use Rattle.std.proofs.Common.{◌≡◌, ◌⊎◌, inl, inr, ℕ, suc, ◌+◌, ◌<◌, ◌==◌, List, [], ◌∷◌, ◌++◌, length, map, Bool, true}
use Rattle.std.proofs.Common.{false, cond, Option, Some, None, option_and_then, refl, sym, ap, subst, ◌∙◌, arith}
use Rattle.std.proofs.lemmas.Bool.{eqb-true}
use Rattle.std.proofs.lemmas.Bool.Decides.{nat_tests}
use Rattle.std.proofs.lemmas.Cmp.{nat_list_cmp_total, tied_itself}
use Rattle.std.specs.Ordering.{nat_cmp, match_ordering}
use Rattle.std.specs.Cmp.Lexicographic.{slice_cmp}
use Rattle.std.specs.List.{list_all}
use Rattle.std.specs.Prelude.{codes, is_some, nat_lt}
use Rattle.std.specs.declared.cmp.Ordering.{Ordering}
use Rattle.std.specs.declared.cmp.Ordering.TheVariants.{Less, Equal, Greater}
use Rattle.serde_json.specs.Data.{Data, string, array, object, Members}
use Rattle.serde_json.specs.Events.{items_len, members_len}
use Rattle.serde_json.specs.Find.{get, get_item, get_member}
use Rattle.serde_json.specs.View.{items_of}
use Rattle.clip_words.specs.Ids.{is_id}
use Rattle.clip_words.specs.declared.TheConstants.{MOST_ID_BYTES}
use Rattle.clip_meaning.specs.Article.{begins_with_digit, is_field_name, is_name_byte}
use Rattle.clip_meaning.specs.declared.fault.TheConstants.{MOST_FIELDS, MOST_NAME_BYTES}
use Rattle.clip_model.specs.declared.limits.TheConstants.{MOST_ARTICLES, MOST_LISTED}
use Rattle.clip_protocol.proofs.RequestLaw.{mapped}
use Rattle.clip_protocol.specs.Request.{Listing, Draft, Request, register, delete, clear, purge, count, show, match}
use Rattle.clip_protocol.specs.Request.{members_from, listing_value, field_value, draft_value, value_of}
use Rattle.clip_protocol.specs.declared.refusal.Refusal.TheVariants.{Limit}
use Rattle.clip_cause.specs.Causes.{HasThere, HasFieldNamed, IsLongList, IsWideObject, IsWrongAt}
use Rattle.clip_cause.specs.Names.{articles, fields, ids, queries}
use Rattle.clip_cause.specs.Path.{Path, to_member, to_item, value_at}
use Rattle.clip_cause.specs.Limits.{at_itself, wrong_of_id, id_fault, id_in, wrong_of_name, field_names_fault}
use Rattle.clip_cause.specs.Limits.{fields_fault, draft_fault, each_fault, limit_fault}
use Rattle.clip_cause.specs.Faults.{Fault, beneath, here, in_item, item_path, named}
use Rattle.clip_cause.specs.Wrong.{refusal_of}
use Rattle.clip_cause.specs.declared.wrong.Wrong.{Wrong}
use Rattle.clip_cause.specs.declared.wrong.Wrong.TheVariants as wrong
use Rattle.clip_cause.proofs.Options.{one_of, held}
use Rattle.clip_cause.proofs.ShapeCauses.{there_at}

-- the line has this wrong, which is one of a limit
abbrev pub IsLimitWrong : Data → Fault → Type 0
IsLimitWrong d f = IsWrongAt f.0 f.1 d × (refusal_of f.1 ≡ Limit)

same_some : {A : Type 0} (x y : A) → Some x ≡ Some y → x ≡ y
same_some x y e = cc

-- ---- ids

empty_list : (xs : List ℕ) → (length xs == 0) ≡ true → xs ≡ []
empty_list [] e = refl
empty_list (x ∷ xs) e = let none : suc (length xs) ≡ 0 = eqb-true _ _ e in absurd (omega (arith, none))

long_id : (id : List ℕ) → is_id id ≡ false → (length id == 0) ≡ false → MOST_ID_BYTES < length id
long_id id e some = grind (arith, nat_tests)

wrong_id_at : (b : Bool) (path : Path) (id : List ℕ) (d : Data) → is_id id ≡ false → (length id == 0) ≡ b
    → value_at path d ≡ Some (string id) → IsLimitWrong d (path, cond b wrong.EmptyId wrong.LongId)
wrong_id_at true path id d e is there = ((string id, there, ap string (empty_list id is)), refl)
wrong_id_at false path id d e is there = ((string id, there, (id, refl, long_id id e is)), refl)

wrong_id : (path : Path) (id : List ℕ) (d : Data) → is_id id ≡ false → value_at path d ≡ Some (string id)
    → IsLimitWrong d (path, wrong_of_id id)
wrong_id path id d e there = wrong_id_at (length id == 0) path id d e refl there

-- the fault of an id, and that it may be none
abbrev IsIdFault : List ℕ → Path → Fault → Type 0
IsIdFault id path g = (is_id id ≡ false) × ((path, wrong_of_id id) ≡ g)

lone_id_is : (b : Bool) (id : List ℕ) (g : Fault) → is_id id ≡ b → at_itself (cond b None (Some (wrong_of_id id)))
    ≡ Some g → IsIdFault id [] g
lone_id_is true id g is e = cc
lone_id_is false id g is e = (is, same_some _ g e)

id_is : (b : Bool) (id : List ℕ) (g : Fault) → is_id id ≡ b
    → beneath (codes "id") (at_itself (cond b None (Some (wrong_of_id id)))) ≡ Some g
    → IsIdFault id (to_member (codes "id") ∷ []) g
id_is true id g is e = cc
id_is false id g is e = (is, same_some _ g e)

-- ---- lists

pub record HasItem {A : Type 0} (list : List ℕ) (fault : A → Option Fault) (value : A
    → Data) (place : ℕ) (xs : List A) (f : Fault) : Type 0 where
  pub number : ℕ
  pub thing : A
  pub inner : Fault
  pub is : (item_path list (place + number) inner.0, inner.1) ≡ f
  pub there : get_item number (items_of (map value xs)) ≡ Some (value thing)
  pub has : fault thing ≡ Some inner

each_has_by : {A : Type 0} (list : List ℕ) (fault : A → Option Fault) (value : A
    → Data) (place : ℕ) (x : A) (xs : List A) (f : Fault)
    → (each_fault list fault (suc place) xs ≡ Some f → HasItem list fault value (suc place) xs f)
    → (in_item list place (fault x) ≡ Some f)
    ⊎ ((in_item list place (fault x) ≡ None) × (each_fault list fault (suc place) xs ≡ Some f))
    → HasItem list fault value place (x ∷ xs) f
each_has_by list fault value place x xs f more (inl e) =
    let w = mapped (fault x) (λ g. (item_path list place g.0, g.1)) f e in
    let same : place + 0 ≡ place = omega arith in
    record {
      number = 0;
      thing = x;
      inner = w.0;
      is = ap (λ n. (item_path list n w.0.0, w.0.1)) same ∙ w.2;
      there =
          refl;
      has = w.1;
    }
each_has_by list fault value place x xs f more (inr e) =
    let w = more e.1 in
    let same : place + suc w.number ≡ suc place + w.number = omega arith in
    record {
      number = suc w.number;
      thing = w.thing;
      inner = w.inner;
      is =
          ap (λ n. (item_path list n w.inner.0, w.inner.1)) same ∙ w.is;
      there = w.there;
      has = w.has;
    }

each_has : {A : Type 0} (list : List ℕ) (fault : A → Option Fault) (value : A
    → Data) (place : ℕ) (xs : List A) (f : Fault) → each_fault list fault place xs ≡ Some f
    → HasItem list fault value place xs f
each_has list fault value place [] f e = cc
each_has list fault value place (x ∷ xs) f e =
    each_has_by list fault value place x xs f (each_has list fault value (suc place) xs f) (one_of _ _ f e)

items_len-items_of : {A : Type 0} (value : A → Data) (xs : List A) → items_len (items_of (map value xs)) ≡ length xs
items_len-items_of value [] = refl
items_len-items_of value (x ∷ xs) = ap suc (items_len-items_of value xs)

above : (most n : ℕ) → nat_lt most n ≡ true → most < n
above most n e = grind (arith, nat_tests)

-- the list has too many items
long_list : {A : Type 0} (list : List ℕ) (most : ℕ) (value : A → Data) (xs : List A) (d : Data)
    → nat_lt most (length xs) ≡ true → get list d ≡ Some (array (items_of (map value xs)))
    → HasThere (to_member list ∷ []) d (IsLongList most)
long_list list most value xs d e there =
    let len = items_len-items_of value xs in
    let more : most < length xs = above most (length xs) e in (
      array (items_of (map value xs)),
      ap (option_and_then (value_at [])) there,
      (items_of (map value xs), refl, subst (λ n. most < n) (sym len) more),
    )

listed_wrong_at : {A : Type 0} (b : Bool) (list : List ℕ) (most : ℕ) (w : Wrong) (fault : A → Option Fault) (value : A
    → Data) (xs : List A) (d : Data) → nat_lt most (length xs) ≡ b → get list d ≡ Some (array (items_of (map value xs)))
    → (HasThere (to_member list ∷ []) d (IsLongList most) → IsLimitWrong d (named w list))
    → ((k : ℕ) (x : A) (g : Fault) → fault x ≡ Some g → value_at (to_member list ∷ to_item k ∷ []) d ≡ Some (value x)
    → IsLimitWrong d (item_path list k g.0, g.1))
    → (f : Fault) → cond b (Some (named w list)) (each_fault list fault 0 xs) ≡ Some f → IsLimitWrong d f
listed_wrong_at true list most w fault value xs d is there long one f e =
    subst (IsLimitWrong d) (same_some _ f e) (long (long_list list most value xs d is there))
listed_wrong_at false list most w fault value xs d is there long one f e =
    let h = each_has list fault value 0 xs f e in
    let none : 0 + h.number ≡ h.number = omega arith in
    let same : (item_path list h.number h.inner.0, h.inner.1) ≡ f =
    ap (λ n. (item_path list n h.inner.0, h.inner.1)) (sym none) ∙ h.is in
    let led : value_at (to_member list ∷ to_item h.number ∷ []) d ≡ Some (value h.thing) =
    ap (option_and_then (value_at (to_item h.number ∷ []))) there ∙ ap (option_and_then (value_at [])) h.there in
    subst (IsLimitWrong d) same (one h.number h.thing h.inner h.has led)

-- ---- a path into an item

behind : (owner path : Path) (d e v : Data) → value_at owner d ≡ Some e → value_at path e ≡ Some v
    → value_at (owner ++ path) d ≡ Some v
behind owner path d e v is there = let h = there_at owner path d e (λ u. u ≡ v) is (v, there, refl) in h.1 ∙ ap Some h.2

id_of_listing : (l : Listing) → value_at (to_member (codes "id") ∷ []) (listing_value l) ≡ Some (string l.id)
id_of_listing l = refl

query_wrong : (d : Data) (k : ℕ) (l : Listing) (g : Fault) → id_in l.id ≡ Some g
    → value_at (to_member queries ∷ to_item k ∷ []) d ≡ Some (listing_value l)
    → IsLimitWrong d (item_path queries k g.0, g.1)
query_wrong d k l g e there =
    let w = id_is (is_id l.id) l.id g refl e in
    let led = behind (to_member queries ∷ to_item k ∷ []) (to_member (codes "id") ∷ []) d (listing_value l)
    (string l.id) there (id_of_listing l) in
    subst (λ h. IsLimitWrong d (item_path queries k h.0, h.1)) w.1
    (wrong_id (item_path queries k (to_member (codes "id") ∷ [])) l.id d w.0 led)

listed_id_wrong : (d : Data) (k : ℕ) (id : List ℕ) (g : Fault) → id_fault id ≡ Some g
    → value_at (to_member ids ∷ to_item k ∷ []) d ≡ Some (string id) → IsLimitWrong d (item_path ids k g.0, g.1)
listed_id_wrong d k id g e there =
    let w = lone_id_is (is_id id) id g refl e in
    subst (λ h. IsLimitWrong d (item_path ids k h.0, h.1)) w.1 (wrong_id (item_path ids k []) id d w.0 there)

-- ---- articles

members_len-members_from : (fs : List (List ℕ × List ℕ)) → members_len (members_from (map field_value fs)) ≡ length fs
members_len-members_from [] = refl
members_len-members_from (f ∷ fs) = ap suc (members_len-members_from fs)

fields_of_draft : (a : Draft) → value_at (to_member fields ∷ []) (draft_value a)
    ≡ Some (object (members_from (map field_value a.fields)))
fields_of_draft a = refl

id_of_draft : (a : Draft) → value_at (to_member (codes "id") ∷ []) (draft_value a) ≡ Some (string a.id)
id_of_draft a = refl

found_on : (o : Ordering) (d : Data) (rest : Option Data) → is_some rest ≡ true
    → is_some (match_ordering o rest (Some d) rest) ≡ true
found_on Less d rest e = e
found_on Equal d rest e = refl
found_on Greater d rest e = e

-- a name that may be none, and that a field has it
pub record HasNameFault (fs : List (List ℕ × List ℕ)) (g : Fault) : Type 0 where
  pub name : List ℕ
  pub is : named (wrong_of_name name) name ≡ g
  pub none : is_field_name name ≡ false
  pub there : is_some (get_member name (members_from (map field_value fs))) ≡ true

name_fault_at : (b : Bool) (f : List ℕ × List ℕ) (fs : List (List ℕ × List ℕ)) (g : Fault) → is_field_name f.0 ≡ b
    → (field_names_fault fs ≡ Some g → HasNameFault fs g)
    → cond b (field_names_fault fs) (Some (named (wrong_of_name f.0) f.0)) ≡ Some g → HasNameFault (f ∷ fs) g
name_fault_at true f fs g is more e =
    let w = more e in record {
      name = w.name;
      is = w.is;
      none = w.none;
      there =
          found_on (slice_cmp nat_cmp w.name f.0) (string f.1) _ w.there;
    }
name_fault_at false f fs g is more e =
    let first : get_member f.0 (members_from (map field_value (f ∷ fs))) ≡ Some (string f.1) =
    ap (λ o. match_ordering o (get_member f.0 (members_from (map field_value fs))) (Some (string f.1))
    (get_member f.0 (members_from (map field_value fs)))) (tied_itself nat_list_cmp_total f.0) in
    record { name = f.0; is = same_some _ g e; none = is; there = ap is_some first }

name_fault : (fs : List (List ℕ × List ℕ)) (g : Fault) → field_names_fault fs ≡ Some g → HasNameFault fs g
name_fault [] g e = cc
name_fault (f ∷ fs) g e = name_fault_at (is_field_name f.0) f fs g refl (name_fault fs g) e

-- the field's name is there in the line
abbrev NamedThere : Data → ℕ → List ℕ → Type 0
NamedThere d k name = is_some (value_at (item_path articles k (to_member fields ∷ to_member name ∷ [])) d) ≡ true

has_named : (d : Data) (k : ℕ) (name : List ℕ) (P : List ℕ → Type 0) → NamedThere d k name → P name
    → HasFieldNamed (item_path articles k (to_member fields ∷ to_member name ∷ [])) d P
has_named d k name P there h = record { place = k; name = name; parts = refl; there = there; has = h }

bad_byte_at : (b : Bool) (name : List ℕ) → is_field_name name ≡ false → (length name == 0) ≡ false
    → nat_lt MOST_NAME_BYTES (length name) ≡ false → begins_with_digit name ≡ false → list_all is_name_byte name ≡ b
    → b ≡ false
unfolding is_field_name
bad_byte_at false name e some short digit is = refl
bad_byte_at true name e some short digit is = grind (arith, nat_tests)

bad_byte : (name : List ℕ) → is_field_name name ≡ false → (length name == 0) ≡ false
    → nat_lt MOST_NAME_BYTES (length name) ≡ false → begins_with_digit name ≡ false → list_all is_name_byte name ≡ false
bad_byte name e some short digit = bad_byte_at (list_all is_name_byte name) name e some short digit refl

wrong_name_at : (a b c : Bool) (d : Data) (k : ℕ) (name : List ℕ) → NamedThere d k name → is_field_name name ≡ false
    → (length name == 0) ≡ a → nat_lt MOST_NAME_BYTES (length name) ≡ b → begins_with_digit name ≡ c
    → IsLimitWrong d (
      item_path articles k (to_member fields ∷ to_member name ∷ []),
      cond a wrong.EmptyName (cond b wrong.LongName (cond c wrong.DigitFirst wrong.ByteOfName)),
    )
wrong_name_at true b c d k name there none some long digit =
    (has_named d k name (λ n. n ≡ []) there (empty_list name some), refl)
wrong_name_at false true c d k name there none some long digit =
    (has_named d k name (λ n. MOST_NAME_BYTES < length n) there (above MOST_NAME_BYTES (length name) long), refl)
wrong_name_at false false true d k name there none some long digit =
    (has_named d k name (λ n. begins_with_digit n ≡ true) there digit, refl)
wrong_name_at false false false d k name there none some long digit =
    (has_named d k name (λ n. list_all is_name_byte n ≡ false) there (bad_byte name none some long digit), refl)

wrong_name : (d : Data) (k : ℕ) (name : List ℕ) → NamedThere d k name → is_field_name name ≡ false
    → IsLimitWrong d (item_path articles k (to_member fields ∷ to_member name ∷ []), wrong_of_name name)
wrong_name d k name there none =
    wrong_name_at (length name == 0) (nat_lt MOST_NAME_BYTES (length name)) (begins_with_digit name) d k name there
    none refl refl refl

led_some : (owner path : Path) (d e : Data) → value_at owner d ≡ Some e → is_some (value_at path e) ≡ true
    → is_some (value_at (owner ++ path) d) ≡ true
led_some owner path d e is h = let w = held (value_at path e) h in ap is_some (behind owner path d e w.0 is w.1)

name_led : (name : List ℕ) (ms : Members) → is_some (get_member name ms) ≡ true
    → is_some (value_at (to_member name ∷ []) (object ms)) ≡ true
name_led name ms h = let w = held (get_member name ms) h in ap (λ o. is_some (option_and_then (value_at []) o)) w.1

fields_wrong_at : (b : Bool) (d : Data) (k : ℕ) (a : Draft) (g : Fault) → nat_lt MOST_FIELDS (length a.fields) ≡ b
    → value_at (to_member articles ∷ to_item k ∷ []) d ≡ Some (draft_value a)
    → cond b (here wrong.TooManyFields) (field_names_fault a.fields) ≡ Some g
    → IsLimitWrong d (item_path articles k (to_member fields ∷ g.0), g.1)
fields_wrong_at true d k a g is there e =
    let led = behind (to_member articles ∷ to_item k ∷ []) (to_member fields ∷ []) d (draft_value a)
    (object (members_from (map field_value a.fields))) there (fields_of_draft a) in
    let more : MOST_FIELDS < length a.fields = above MOST_FIELDS (length a.fields) is in
    let wide : HasThere (item_path articles k (to_member fields ∷ [])) d (IsWideObject MOST_FIELDS) = (
      object (members_from (map field_value a.fields)),
      led,
      (
        members_from (map field_value a.fields),
        refl,
        subst (λ n. MOST_FIELDS < n) (sym (members_len-members_from a.fields)) more,
      ),
    ) in
    subst (λ h. IsLimitWrong d (item_path articles k (to_member fields ∷ h.0), h.1)) (same_some _ g e) (wide, refl)
fields_wrong_at false d k a g is there e =
    let w = name_fault a.fields g e in
    let led = behind (to_member articles ∷ to_item k ∷ []) (to_member fields ∷ []) d (draft_value a)
    (object (members_from (map field_value a.fields))) there (fields_of_draft a) in
    let name_there = led_some (to_member articles ∷ to_item k ∷ to_member fields ∷ []) (to_member w.name ∷ []) d _ led
    (name_led w.name (members_from (map field_value a.fields)) w.there) in
    subst (λ h. IsLimitWrong d (item_path articles k (to_member fields ∷ h.0), h.1)) w.is
    (wrong_name d k w.name name_there w.none)

draft_wrong_by : (d : Data) (k : ℕ) (a : Draft) (g : Fault) → value_at (to_member articles ∷ to_item k ∷ []) d
    ≡ Some (draft_value a) → (id_in a.id ≡ Some g) ⊎ ((id_in a.id ≡ None) × (beneath fields (fields_fault a) ≡ Some g))
    → IsLimitWrong d (item_path articles k g.0, g.1)
draft_wrong_by d k a g there (inl e) =
    let w = id_is (is_id a.id) a.id g refl e in
    let led = behind (to_member articles ∷ to_item k ∷ []) (to_member (codes "id") ∷ []) d (draft_value a)
    (string a.id) there (id_of_draft a) in
    subst (λ h. IsLimitWrong d (item_path articles k h.0, h.1)) w.1
    (wrong_id (item_path articles k (to_member (codes "id") ∷ [])) a.id d w.0 led)
draft_wrong_by d k a g there (inr e) =
    let w = mapped (fields_fault a) (λ h. (to_member fields ∷ h.0, h.1)) g e.1 in
    subst (λ h. IsLimitWrong d (item_path articles k h.0, h.1)) w.2
    (fields_wrong_at (nat_lt MOST_FIELDS (length a.fields)) d k a w.0 refl there w.1)

article_wrong : (d : Data) (k : ℕ) (a : Draft) (g : Fault) → draft_fault a ≡ Some g
    → value_at (to_member articles ∷ to_item k ∷ []) d ≡ Some (draft_value a)
    → IsLimitWrong d (item_path articles k g.0, g.1)
article_wrong d k a g e there = draft_wrong_by d k a g there (one_of _ _ g e)

-- ---- requests

-- what a fault of a limit says is so
pub limit_wrong : (r : Request) (f : Fault) → limit_fault r ≡ Some f → IsLimitWrong (value_of r) f
limit_wrong (register listings) f e =
    listed_wrong_at (nat_lt MOST_LISTED (length listings)) queries MOST_LISTED wrong.TooManyQueries (λ l. id_in l.id)
    listing_value listings (value_of (register listings)) refl refl (λ long. ((refl, long), refl))
    (query_wrong (value_of (register listings))) f e
limit_wrong (delete listed) f e =
    listed_wrong_at (nat_lt MOST_LISTED (length listed)) ids MOST_LISTED wrong.TooManyIds id_fault string listed
    (value_of (delete listed)) refl refl (λ long. ((refl, long), refl))
    (listed_id_wrong (value_of (delete listed))) f e
limit_wrong clear f e = cc
limit_wrong purge f e = cc
limit_wrong count f e = cc
limit_wrong (show id) f e = let w = id_is (is_id id) id f refl e in
    subst (IsLimitWrong (value_of (show id))) w.1
    (wrong_id (to_member (codes "id") ∷ []) id (value_of (show id)) w.0 refl)
limit_wrong (match drafts) f e =
    listed_wrong_at (nat_lt MOST_ARTICLES (length drafts)) articles MOST_ARTICLES wrong.TooManyArticles draft_fault
    draft_value drafts (value_of (match drafts)) refl refl (λ long. ((refl, long), refl))
    (article_wrong (value_of (match drafts))) f e
