-- What a fault of shape says is so.
use Rattle.std.proofs.Common.{◌≡◌, ◌⊎◌, inl, inr, ℕ, suc, ◌+◌, ◌||◌, List, [], ◌∷◌, ◌++◌, Bool, true, false, cond}
use Rattle.std.proofs.Common.{Option, Some, None, option_map, option_and_then, bytes_eq, refl, sym, ap, subst, ◌∙◌}
use Rattle.std.proofs.Common.{arith}
use Rattle.std.proofs.lemmas.Cmp.{nat_list_cmp_total, tied_itself}
use Rattle.std.proofs.lemmas.Slice.Eq.{bytes_eq-Decides}
use Rattle.std.specs.Cmp.Lexicographic.{slice_cmp}
use Rattle.std.specs.List.{list_any}
use Rattle.std.specs.Ordering.{nat_cmp, match_ordering, ordering_reverse}
use Rattle.std.specs.Prelude.{codes, is_some}
use Rattle.std.specs.declared.cmp.Ordering.{Ordering}
use Rattle.std.specs.declared.cmp.Ordering.TheVariants.{Less, Equal, Greater}
use Rattle.serde_json.specs.Data.{Data, null, boolean, number, string, array, object, Items, no_items, item, Members}
use Rattle.serde_json.specs.Data.{no_members, member}
use Rattle.serde_json.specs.Find.{get, get_member, get_item, as_str, as_array, as_object}
use Rattle.clip_protocol.proofs.RequestLaw.{led, mapped, text_is, object_is}
use Rattle.clip_protocol.specs.declared.refusal.Refusal.TheVariants.{Shape}
use Rattle.clip_cause.specs.Causes.{HasThere, IsWrongAt, LacksMember, HasForeign}
use Rattle.clip_cause.specs.Names as operation
use Rattle.clip_cause.specs.Names.{Operation, AsksFor, name_of, operation_of, ids, queries, articles, fields}
use Rattle.clip_cause.specs.Names.{query_names, query_needs, article_names, line_names, names_at, needs_at}
use Rattle.clip_cause.specs.Path.{Path, to_member, to_item, step_from, value_at}
use Rattle.clip_cause.specs.Steps.Ordered.{IsBefore, IsBeforeAll, IsOrdered, AreOrdered, AreMembersOrdered}
use Rattle.clip_cause.specs.Faults.{Fault, here, in_item, item_path, named, or_else}
use Rattle.clip_cause.specs.Shapes.{missing, unknown, names_fault, text_fault, texts_fault, is_text_or_absent}
use Rattle.clip_cause.specs.Shapes.{is_text_if_there, query_fault, field_texts, fields_by, fields_fault, fields_in}
use Rattle.clip_cause.specs.Shapes.{article_fault, items_fault, list_fault, list_in, line_names_fault, content_fault}
use Rattle.clip_cause.specs.Shapes.{asked_by, word_by, op_by, shape_fault}
use Rattle.clip_cause.specs.Wrong.{refusal_of}
use Rattle.clip_cause.specs.declared.wrong.Wrong.{Wrong}
use Rattle.clip_cause.specs.declared.wrong.Wrong.TheVariants as wrong
use Rattle.clip_cause.proofs.KnownMembers.{skipped}
use Rattle.clip_cause.proofs.Shaped.{name_is}
use Rattle.clip_cause.proofs.Options.{one_of, held}

-- ---- what is wrong in an object that needs these names and knows those

pub record LacksName (needs : List (List ℕ)) (path : Path) (d : Data) : Type 0 where
  pub name : List ℕ
  pub members : Members
  pub parts : path ≡ to_member name ∷ []
  pub is : d ≡ object members
  pub none : get_member name members ≡ None
  pub needed : list_any (bytes_eq name) needs ≡ true

pub record HasName (names : List (List ℕ)) (path : Path) (d : Data) : Type 0 where
  pub name : List ℕ
  pub parts : path ≡ to_member name ∷ []
  pub there : is_some (value_at path d) ≡ true
  pub foreign : list_any (bytes_eq name) names ≡ false

abbrev pub IsWrongIn : List (List ℕ) → List (List ℕ) → Path → Wrong → Data → Type 0
IsWrongIn needs names path wrong.NotAnObject d = HasThere path d (λ e. as_object e ≡ None)
IsWrongIn needs names path wrong.NotAList d = HasThere path d (λ e. as_array e ≡ None)
IsWrongIn needs names path wrong.NotAString d = HasThere path d (λ e. as_str e ≡ None)
IsWrongIn needs names path wrong.Missing d = LacksName needs path d
IsWrongIn needs names path wrong.Unknown d = HasName names path d
IsWrongIn needs names path _ d = ⊥

-- ---- from there to the line's value

value_at-append : (owner path : Path) (d e : Data) → value_at owner d ≡ Some e
    → value_at (owner ++ path) d ≡ value_at path e
value_at-append [] path d e is = let same : d ≡ e = cc in ap (value_at path) same
value_at-append (s ∷ owner) path d e is =
    let w = led (step_from s d) (value_at owner) e is in ap (option_and_then (value_at (owner ++ path))) w.1
    ∙ value_at-append owner path w.0 e w.2

pub there_at : (owner path : Path) (d e : Data) (P : Data → Type 0) → value_at owner d ≡ Some e → HasThere path e P
    → HasThere (owner ++ path) d P
there_at owner path d e P is h = (h.0, value_at-append owner path d e is ∙ h.1, h.2)

lacks_at : (owner path : Path) (d e : Data) (o : Operation) → value_at owner d ≡ Some e → AsksFor o d
    → LacksName (needs_at o owner) path e → LacksMember (owner ++ path) d
lacks_at owner path d e o is asked l = record {
  owner = owner;
  name = l.name;
  parts = ap (λ p. owner ++ p) l.parts;
  lacks = (e, is, (l.members, l.is, l.none));
  needed = inr (o, asked, l.needed);
}

has_at : (owner path : Path) (d e : Data) (o : Operation) → value_at owner d ≡ Some e → AsksFor o d
    → HasName (names_at o owner) path e → HasForeign (owner ++ path) d
has_at owner path d e o is asked h = record {
  owner = owner;
  name = h.name;
  parts = ap (λ p. owner ++ p) h.parts;
  there = ap is_some (value_at-append owner path d e is) ∙ h.there;
  foreign = (o, asked, h.foreign);
}

-- the line has this wrong, which is one of its shape
abbrev pub IsShapeWrong : Data → Fault → Type 0
IsShapeWrong d f = IsWrongAt f.0 f.1 d × (refusal_of f.1 ≡ Shape)

wrong_at : (owner path : Path) (w : Wrong) (d e : Data) (o : Operation) → value_at owner d ≡ Some e → AsksFor o d
    → IsWrongIn (needs_at o owner) (names_at o owner) path w e → IsShapeWrong d (owner ++ path, w)
wrong_at owner path wrong.NotAnObject d e o is asked h = (there_at owner path d e _ is h, refl)
wrong_at owner path wrong.NotAList d e o is asked h = (there_at owner path d e _ is h, refl)
wrong_at owner path wrong.NotAString d e o is asked h = (there_at owner path d e _ is h, refl)
wrong_at owner path wrong.Missing d e o is asked h = (lacks_at owner path d e o is asked h, refl)
wrong_at owner path wrong.Unknown d e o is asked h = (has_at owner path d e o is asked h, refl)
wrong_at owner path wrong.NotUtf8 d e o is asked h = absurd h
wrong_at owner path wrong.NotJson d e o is asked h = absurd h
wrong_at owner path wrong.NoOperation d e o is asked h = absurd h
wrong_at owner path wrong.TooManyQueries d e o is asked h = absurd h
wrong_at owner path wrong.TooManyIds d e o is asked h = absurd h
wrong_at owner path wrong.TooManyArticles d e o is asked h = absurd h
wrong_at owner path wrong.TooManyFields d e o is asked h = absurd h
wrong_at owner path wrong.EmptyId d e o is asked h = absurd h
wrong_at owner path wrong.LongId d e o is asked h = absurd h
wrong_at owner path wrong.EmptyName d e o is asked h = absurd h
wrong_at owner path wrong.LongName d e o is asked h = absurd h
wrong_at owner path wrong.ByteOfName d e o is asked h = absurd h
wrong_at owner path wrong.DigitFirst d e o is asked h = absurd h

-- ---- names

same_some : {A : Type 0} (x y : A) → Some x ≡ Some y → x ≡ y
same_some x y e = cc

no_some : {A : Type 0} (o : Option A) → is_some o ≡ false → o ≡ None
no_some None e = refl
no_some (Some x) e = cc

itself : (name : List ℕ) → bytes_eq name name ≡ true
itself name = (bytes_eq-Decides name name).1 refl

or_true : (a b : Bool) → b ≡ true → (a || b) ≡ true
or_true true b e = refl
or_true false b e = e

missing_is_at : (b : Bool) (m n : List ℕ) (names : List (List ℕ)) (d : Data) → is_some (get m d) ≡ b
    → (missing names d ≡ Some n → (get n d ≡ None) × (list_any (bytes_eq n) names ≡ true))
    → cond b (missing names d) (Some m) ≡ Some n
    → (get n d ≡ None) × (list_any (bytes_eq n) (m ∷ names) ≡ true)
missing_is_at true m n names d is more e = let w = more e in (w.0, or_true (bytes_eq n m) _ w.1)
missing_is_at false m n names d is more e =
    subst (λ k. (get k d ≡ None) × (list_any (bytes_eq k) (m ∷ names) ≡ true)) (same_some m n e) (
      no_some (get m d) is,
      ap (λ b. b || list_any (bytes_eq m) names) (itself m),
    )

missing_is : (names : List (List ℕ)) (d : Data) (n : List ℕ) → missing names d ≡ Some n
    → (get n d ≡ None) × (list_any (bytes_eq n) names ≡ true)
missing_is [] d n e = cc
missing_is (m ∷ names) d n e = missing_is_at (is_some (get m d)) m n names d refl (missing_is names d n) e

found_on : (o : Ordering) (d : Data) (rest : Option Data) → is_some rest ≡ true
    → is_some (match_ordering o rest (Some d) rest) ≡ true
found_on Less d rest e = e
found_on Equal d rest e = refl
found_on Greater d rest e = e

found_first : (k : List ℕ) (d : Data) (ms : Members) → get_member k (member k d ms) ≡ Some d
found_first k d ms = ap (λ o. match_ordering o (get_member k ms) (Some d) (get_member k ms))
    (tied_itself nat_list_cmp_total k)

unknown_is_at : (b : Bool) (k n : List ℕ) (d : Data) (names : List (List ℕ)) (ms : Members)
    → list_any (bytes_eq k) names ≡ b
    → (unknown names ms ≡ Some n → (is_some (get_member n ms) ≡ true) × (list_any (bytes_eq n) names ≡ false))
    → cond b (unknown names ms) (Some k) ≡ Some n
    → (is_some (get_member n (member k d ms)) ≡ true) × (list_any (bytes_eq n) names ≡ false)
unknown_is_at true k n d names ms is more e = let w = more e in
    (found_on (slice_cmp nat_cmp n k) d (get_member n ms) w.0, w.1)
unknown_is_at false k n d names ms is more e =
    subst (λ m. (is_some (get_member m (member k d ms)) ≡ true) × (list_any (bytes_eq m) names ≡ false))
    (same_some k n e) (ap is_some (found_first k d ms), is)

unknown_is : (names : List (List ℕ)) (ms : Members) (n : List ℕ) → unknown names ms ≡ Some n
    → (is_some (get_member n ms) ≡ true) × (list_any (bytes_eq n) names ≡ false)
unknown_is names no_members n e = cc
unknown_is names (member k d ms) n e =
    unknown_is_at (list_any (bytes_eq k) names) k n d names ms refl (unknown_is names ms n) e

-- the value itself is no object
no_object : (needs names : List (List ℕ)) (d : Data) (f : Fault) → as_object d ≡ None → here wrong.NotAnObject ≡ Some f
    → IsWrongIn needs names f.0 f.1 d
no_object needs names d f none e = subst (λ g. IsWrongIn needs names g.0 g.1 d) (same_some _ f e) (d, refl, none)

-- a member that is there is led to
led_to : (name : List ℕ) (d : Data) → is_some (get name d) ≡ true → is_some (value_at (to_member name ∷ []) d) ≡ true
led_to name d h = let w = held (get name d) h in ap (λ o. is_some (option_and_then (value_at []) o)) w.1

names_wrong_by : (needs names : List (List ℕ)) (ms : Members) (f : Fault)
    → (option_map (named wrong.Missing) (missing needs (object ms)) ≡ Some f)
    ⊎ ((option_map (named wrong.Missing) (missing needs (object ms)) ≡ None)
    × (option_map (named wrong.Unknown) (unknown names ms) ≡ Some f))
    → IsWrongIn needs names f.0 f.1 (object ms)
names_wrong_by needs names ms f (inl e) =
    let w = mapped (missing needs (object ms)) (named wrong.Missing) f e in
    let m = missing_is needs (object ms) w.0 w.1 in
    subst (λ g. IsWrongIn needs names g.0 g.1 (object ms)) w.2 (record {
      name = w.0;
      members = ms;
      parts = refl;
      is =
          refl;
      none = m.0;
      needed = m.1;
    })
names_wrong_by needs names ms f (inr e) =
    let w = mapped (unknown names ms) (named wrong.Unknown) f e.1 in
    let m = unknown_is names ms w.0 w.1 in
    subst (λ g. IsWrongIn needs names g.0 g.1 (object ms)) w.2 (record {
      name = w.0;
      parts = refl;
      there =
          led_to w.0 (object ms) m.0;
      foreign = m.1;
    })

names_wrong : (needs names : List (List ℕ)) (d : Data) (f : Fault) → names_fault needs names d ≡ Some f
    → IsWrongIn needs names f.0 f.1 d
names_wrong needs names null f e = no_object needs names null f refl e
names_wrong needs names (boolean b) f e = no_object needs names (boolean b) f refl e
names_wrong needs names (number n) f e = no_object needs names (number n) f refl e
names_wrong needs names (string s) f e = no_object needs names (string s) f refl e
names_wrong needs names (array ds) f e = no_object needs names (array ds) f refl e
names_wrong needs names (object ms) f e = names_wrong_by needs names ms f (one_of _ _ f e)

-- ---- texts

no_text_there_at : (name : List ℕ) (d : Data) (o : Option Data) → get name d ≡ o → is_text_if_there o ≡ false
    → HasThere (to_member name ∷ []) d (λ e. as_str e ≡ None)
no_text_there_at name d None is e = cc
no_text_there_at name d (Some v) is e = (v, ap (option_and_then (value_at [])) is, no_some (as_str v) e)

texts_wrong_at : (b : Bool) (needs known : List (List ℕ)) (name : List ℕ) (names : List (List ℕ)) (d : Data)
    (f : Fault) → is_text_or_absent name d ≡ b → (texts_fault names d ≡ Some f → IsWrongIn needs known f.0 f.1 d)
    → cond b (texts_fault names d) (Some (named wrong.NotAString name)) ≡ Some f
    → IsWrongIn needs known f.0 f.1 d
texts_wrong_at true needs known name names d f is more e = more e
texts_wrong_at false needs known name names d f is more e =
    subst (λ g. IsWrongIn needs known g.0 g.1 d) (same_some _ f e) (no_text_there_at name d (get name d) refl is)

texts_wrong : (needs known names : List (List ℕ)) (d : Data) (f : Fault) → texts_fault names d ≡ Some f
    → IsWrongIn needs known f.0 f.1 d
texts_wrong needs known [] d f e = cc
texts_wrong needs known (name ∷ names) d f e =
    texts_wrong_at (is_text_or_absent name d) needs known name names d f refl (texts_wrong needs known names d f) e

text_wrong_at : (d : Data) (g : Fault) (o : Option (List ℕ)) → as_str d ≡ o → text_fault d ≡ Some g
    → IsWrongIn [] [] g.0 g.1 d
text_wrong_at null g o is e = subst (λ h. IsWrongIn [] [] h.0 h.1 null) (same_some _ g e) (null, refl, refl)
text_wrong_at (boolean b) g o is e =
    subst (λ h. IsWrongIn [] [] h.0 h.1 (boolean b)) (same_some _ g e) (boolean b, refl, refl)
text_wrong_at (number n) g o is e =
    subst (λ h. IsWrongIn [] [] h.0 h.1 (number n)) (same_some _ g e) (number n, refl, refl)
text_wrong_at (string s) g o is e = cc
text_wrong_at (array ds) g o is e =
    subst (λ h. IsWrongIn [] [] h.0 h.1 (array ds)) (same_some _ g e) (array ds, refl, refl)
text_wrong_at (object ms) g o is e =
    subst (λ h. IsWrongIn [] [] h.0 h.1 (object ms)) (same_some _ g e) (object ms, refl, refl)

text_wrong : (d : Data) → IsOrdered d → (g : Fault) → text_fault d ≡ Some g → IsWrongIn [] [] g.0 g.1 d
text_wrong d h g e = text_wrong_at d g (as_str d) refl e

-- ---- listed queries and articles

query_wrong_by : (d : Data) (f : Fault) → (names_fault query_needs query_names d ≡ Some f)
    ⊎ ((names_fault query_needs query_names d ≡ None) × (texts_fault query_names d ≡ Some f))
    → IsWrongIn query_needs query_names f.0 f.1 d
query_wrong_by d f (inl e) = names_wrong query_needs query_names d f e
query_wrong_by d f (inr e) = texts_wrong query_needs query_names query_names d f e.1

query_wrong : (d : Data) → IsOrdered d → (f : Fault) → query_fault d ≡ Some f
    → IsWrongIn query_needs query_names f.0 f.1 d
query_wrong d h f e = query_wrong_by d f (one_of _ _ f e)

-- a name that is found lies behind one that is before all
behind_found_at : (o : Ordering) (k name l : List ℕ) (d e : Data) (ms : Members) → slice_cmp nat_cmp name l ≡ o
    → IsBefore k l → (get_member name ms ≡ Some e → IsBefore k name)
    → match_ordering o (get_member name ms) (Some d) (get_member name ms) ≡ Some e → IsBefore k name
behind_found_at Less k name l d e ms is b more found = more found
behind_found_at Equal k name l d e ms is b more found = nat_list_cmp_total.antisymm k name
    ∙ ap ordering_reverse (nat_list_cmp_total.congr name l k is) ∙ sym (nat_list_cmp_total.antisymm k l) ∙ b
behind_found_at Greater k name l d e ms is b more found = more found

behind_found : (k name : List ℕ) (e : Data) (ms : Members) → IsBeforeAll k ms → get_member name ms ≡ Some e
    → IsBefore k name
behind_found k name e no_members h found = cc
behind_found k name e (member l d ms) h found =
    behind_found_at (slice_cmp nat_cmp name l) k name l d e ms refl h.0 (behind_found k name e ms h.1) found

-- a field that is no string
pub record HasFieldFault (ms : Members) (g : Fault) : Type 0 where
  pub name : List ℕ
  pub value : Data
  pub is : (to_member name ∷ [], wrong.NotAString) ≡ g
  pub there : get_member name ms ≡ Some value
  pub none : as_str value ≡ None

field_wrong_at : (b : Bool) (k : List ℕ) (d : Data) (ms : Members) (g : Fault) → is_some (as_str d) ≡ b
    → IsBeforeAll k ms → (field_texts ms ≡ Some g → HasFieldFault ms g)
    → cond b (field_texts ms) (Some (named wrong.NotAString k)) ≡ Some g → HasFieldFault (member k d ms) g
field_wrong_at true k d ms g is h more e =
    let w = more e in record {
      name = w.name;
      value = w.value;
      is = w.is;
      there =
          skipped k w.name d ms (behind_found k w.name w.value ms h w.there) ∙ w.there;
      none = w.none;
    }
field_wrong_at false k d ms g is h more e =
    record { name = k; value = d; is = same_some _ g e; there = found_first k d ms; none = no_some (as_str d) is }

field_wrong : (ms : Members) → AreMembersOrdered ms → (g : Fault) → field_texts ms ≡ Some g → HasFieldFault ms g
field_wrong no_members h g e = cc
field_wrong (member k d ms) h g e = field_wrong_at (is_some (as_str d)) k d ms g refl h.0 (field_wrong ms h.1.1 g) e

no_fields : (d v : Data) (g : Fault) → get fields d ≡ Some v → as_object v ≡ None → here wrong.NotAnObject ≡ Some g
    → IsWrongIn article_names article_names (to_member fields ∷ g.0) g.1 d
no_fields d v g there none e =
    subst (λ h. IsWrongIn article_names article_names (to_member fields ∷ h.0) h.1 d) (same_some _ g e) (
      v,
      ap (option_and_then (value_at [])) there,
      none,
    )

fields_wrong_at : (d v : Data) → IsOrdered v → get fields d ≡ Some v → (g : Fault) → fields_by (as_object v) ≡ Some g
    → IsWrongIn article_names article_names (to_member fields ∷ g.0) g.1 d
fields_wrong_at d null h there g e = no_fields d null g there refl e
fields_wrong_at d (boolean b) h there g e = no_fields d (boolean b) g there refl e
fields_wrong_at d (number n) h there g e = no_fields d (number n) g there refl e
fields_wrong_at d (string s) h there g e = no_fields d (string s) g there refl e
fields_wrong_at d (array ds) h there g e = no_fields d (array ds) g there refl e
fields_wrong_at d (object ms) h there g e =
    let w = field_wrong ms h g e in
    let way : value_at (to_member fields ∷ to_member w.name ∷ []) d ≡ Some w.value =
    ap (option_and_then (value_at (to_member w.name ∷ []))) there ∙ ap (option_and_then (value_at [])) w.there in
    subst (λ i. IsWrongIn article_names article_names (to_member fields ∷ i.0) i.1 d) w.is (w.value, way, w.none)

-- the values of members are ordered
ordered_found_at : (o : Ordering) (rest : Option Data) (d e : Data) → IsOrdered d → (rest ≡ Some e → IsOrdered e)
    → match_ordering o rest (Some d) rest ≡ Some e → IsOrdered e
ordered_found_at Less rest d e h more found = more found
ordered_found_at Equal rest d e h more found = subst IsOrdered (same_some d e found) h
ordered_found_at Greater rest d e h more found = more found

ordered_found : (name : List ℕ) (ms : Members) (e : Data) → AreMembersOrdered ms → get_member name ms ≡ Some e
    → IsOrdered e
ordered_found name no_members e h found = cc
ordered_found name (member k d ms) e h found =
    ordered_found_at (slice_cmp nat_cmp name k) (get_member name ms) d e h.1.0 (ordered_found name ms e h.1.1) found

ordered_member : (name : List ℕ) (d e : Data) → IsOrdered d → get name d ≡ Some e → IsOrdered e
ordered_member name null e h found = cc
ordered_member name (boolean b) e h found = cc
ordered_member name (number n) e h found = cc
ordered_member name (string s) e h found = cc
ordered_member name (array ds) e h found = cc
ordered_member name (object ms) e h found = ordered_found name ms e h found

fields_wrong : (d : Data) → IsOrdered d → (f : Fault) → fields_in d ≡ Some f
    → IsWrongIn article_names article_names f.0 f.1 d
fields_wrong d h f e =
    let w = led (get fields d) fields_fault f e in
    let g = mapped (fields_by (as_object w.0)) (λ i. (to_member fields ∷ i.0, i.1)) f w.2 in
    subst (λ i. IsWrongIn article_names article_names i.0 i.1 d) g.2
    (fields_wrong_at d w.0 (ordered_member fields d w.0 h w.1) w.1 g.0 g.1)

article_rest_wrong_by : (d : Data) → IsOrdered d → (f : Fault) → (fields_in d ≡ Some f)
    ⊎ ((fields_in d ≡ None) × (texts_fault (codes "id" ∷ []) d ≡ Some f))
    → IsWrongIn article_names article_names f.0 f.1 d
article_rest_wrong_by d h f (inl e) = fields_wrong d h f e
article_rest_wrong_by d h f (inr e) = texts_wrong article_names article_names (codes "id" ∷ []) d f e.1

article_wrong_by : (d : Data) → IsOrdered d → (f : Fault) → (names_fault article_names article_names d ≡ Some f)
    ⊎ ((names_fault article_names article_names d ≡ None)
    × (or_else (fields_in d) (texts_fault (codes "id" ∷ []) d) ≡ Some f))
    → IsWrongIn article_names article_names f.0 f.1 d
article_wrong_by d h f (inl e) = names_wrong article_names article_names d f e
article_wrong_by d h f (inr e) = article_rest_wrong_by d h f (one_of _ _ f e.1)

article_wrong : (d : Data) → IsOrdered d → (f : Fault) → article_fault d ≡ Some f
    → IsWrongIn article_names article_names f.0 f.1 d
article_wrong d h f e = article_wrong_by d h f (one_of _ _ f e)

-- ---- lists

-- an item has a fault, and so has the list
pub record HasItemFault (list : List ℕ) (fault : Data → Option Fault) (place : ℕ) (ds : Items) (f : Fault) : Type 0
  where
    pub number : ℕ
    pub value : Data
    pub inner : Fault
    pub is : (item_path list (place + number) inner.0, inner.1) ≡ f
    pub there : get_item number ds ≡ Some value
    pub ordered : IsOrdered value
    pub has : fault value ≡ Some inner

item_wrong_by : (list : List ℕ) (fault : Data → Option Fault) (place : ℕ) (d : Data) (ds : Items) (f : Fault)
    → IsOrdered d → (items_fault list fault (suc place) ds ≡ Some f → HasItemFault list fault (suc place) ds f)
    → (in_item list place (fault d) ≡ Some f)
    ⊎ ((in_item list place (fault d) ≡ None) × (items_fault list fault (suc place) ds ≡ Some f))
    → HasItemFault list fault place (item d ds) f
item_wrong_by list fault place d ds f h more (inl e) =
    let w = mapped (fault d) (λ g. (item_path list place g.0, g.1)) f e in
    let same : place + 0 ≡ place = omega arith in
    record {
      number = 0;
      value = d;
      inner = w.0;
      is = ap (λ n. (item_path list n w.0.0, w.0.1)) same ∙ w.2;
      there =
          refl;
      ordered = h;
      has = w.1;
    }
item_wrong_by list fault place d ds f h more (inr e) =
    let w = more e.1 in
    let same : place + suc w.number ≡ suc place + w.number = omega arith in
    record {
      number = suc w.number;
      value = w.value;
      inner = w.inner;
      is =
          ap (λ n. (item_path list n w.inner.0, w.inner.1)) same ∙ w.is;
      there = w.there;
      ordered = w.ordered;
      has =
          w.has;
    }

item_wrong : (list : List ℕ) (fault : Data → Option Fault) (place : ℕ) (ds : Items) (f : Fault) → AreOrdered ds
    → items_fault list fault place ds ≡ Some f → HasItemFault list fault place ds f
item_wrong list fault place no_items f h e = cc
item_wrong list fault place (item d ds) f h e =
    item_wrong_by list fault place d ds f h.0 (item_wrong list fault (suc place) ds f h.1) (one_of _ _ f e)

-- a list that is none, or has an item with a fault
list_wrong_at : (list : List ℕ) (fault : Data → Option Fault) (o : Operation) (d v : Data)
    → ((k : ℕ) (e : Data) → IsOrdered e → (g : Fault) → fault e ≡ Some g
    → IsWrongIn (needs_at o (to_member list ∷ to_item k ∷ [])) (names_at o (to_member list ∷ to_item k ∷ [])) g.0
    g.1 e)
    → AsksFor o d → get list d ≡ Some v → IsOrdered v → (f : Fault) → list_fault list fault v ≡ Some f
    → IsShapeWrong d f
list_wrong_at list fault o d (array ds) one asked there h f e =
    let w = item_wrong list fault 0 ds f h e in
    let none : 0 + w.number ≡ w.number = omega arith in
    let is : (item_path list w.number w.inner.0, w.inner.1) ≡ f =
    ap (λ n. (item_path list n w.inner.0, w.inner.1)) (sym none) ∙ w.is in
    let way : value_at (to_member list ∷ to_item w.number ∷ []) d ≡ Some w.value =
    ap (option_and_then (value_at (to_item w.number ∷ []))) there ∙ ap (option_and_then (value_at [])) w.there in
    subst (IsShapeWrong d) is
    (wrong_at (to_member list ∷ to_item w.number ∷ []) w.inner.0 w.inner.1 d w.value o way asked
    (one w.number w.value w.ordered w.inner w.has))
list_wrong_at list fault o d null one asked there h f e =
    subst (IsShapeWrong d) (same_some _ f e) ((null, ap (option_and_then (value_at [])) there, refl), refl)
list_wrong_at list fault o d (boolean b) one asked there h f e =
    subst (IsShapeWrong d) (same_some _ f e) ((boolean b, ap (option_and_then (value_at [])) there, refl), refl)
list_wrong_at list fault o d (number n) one asked there h f e =
    subst (IsShapeWrong d) (same_some _ f e) ((number n, ap (option_and_then (value_at [])) there, refl), refl)
list_wrong_at list fault o d (string s) one asked there h f e =
    subst (IsShapeWrong d) (same_some _ f e) ((string s, ap (option_and_then (value_at [])) there, refl), refl)
list_wrong_at list fault o d (object ms) one asked there h f e =
    subst (IsShapeWrong d) (same_some _ f e) ((object ms, ap (option_and_then (value_at [])) there, refl), refl)

list_wrong : (list : List ℕ) (fault : Data → Option Fault) (o : Operation) (d : Data)
    → ((k : ℕ) (e : Data) → IsOrdered e → (g : Fault) → fault e ≡ Some g
    → IsWrongIn (needs_at o (to_member list ∷ to_item k ∷ [])) (names_at o (to_member list ∷ to_item k ∷ [])) g.0
    g.1 e)
    → AsksFor o d → IsOrdered d → (f : Fault) → list_in list fault d ≡ Some f → IsShapeWrong d f
list_wrong list fault o d one asked h f e =
    let w = led (get list d) (list_fault list fault) f e in
    list_wrong_at list fault o d w.0 one asked w.1 (ordered_member list d w.0 h w.1) f w.2

-- ---- lines

content_wrong : (o : Operation) (d : Data) → IsOrdered d → AsksFor o d → (f : Fault) → content_fault o d ≡ Some f
    → IsShapeWrong d f
content_wrong operation.register d h asked f e =
    list_wrong queries query_fault operation.register d (λ k. query_wrong) asked h f e
content_wrong operation.delete d h asked f e =
    list_wrong ids text_fault operation.delete d (λ k. text_wrong) asked h f e
content_wrong operation.clear d h asked f e = cc
content_wrong operation.purge d h asked f e = cc
content_wrong operation.count d h asked f e = cc
content_wrong operation.show d h asked f e =
    wrong_at [] f.0 f.1 d d operation.show refl asked
    (texts_wrong (line_names operation.show) (line_names operation.show) (codes "id" ∷ []) d f e)
content_wrong operation.match d h asked f e =
    list_wrong articles article_fault operation.match d (λ k. article_wrong) asked h f e

asked_wrong_by : (o : Operation) (d : Data) → IsOrdered d → AsksFor o d → (f : Fault) → (line_names_fault o d ≡ Some f)
    ⊎ ((line_names_fault o d ≡ None) × (content_fault o d ≡ Some f)) → IsShapeWrong d f
asked_wrong_by o d h asked f (inl e) =
    wrong_at [] f.0 f.1 d d o refl asked (names_wrong (line_names o) (line_names o) d f e)
asked_wrong_by o d h asked f (inr e) = content_wrong o d h asked f e.1

op_wrong_at_word : (d v : Data) (word : List ℕ) (o : Option Operation) → IsOrdered d → get (codes "op") d ≡ Some v
    → as_str v ≡ Some word → operation_of word ≡ o → (f : Fault) → asked_by d o ≡ Some f → IsShapeWrong d f
op_wrong_at_word d v word None h there is none f e =
    subst (IsShapeWrong d) (same_some _ f e)
    ((refl, (v, ap (option_and_then (value_at [])) there, (word, text_is v word is, none))), refl)
op_wrong_at_word d v word (Some o) h there is found f e =
    let asked : AsksFor o d = there ∙ ap Some (text_is v word is ∙ ap string (name_is word o found)) in
    asked_wrong_by o d h asked f (one_of _ _ f e)

op_wrong_at : (d v : Data) (word : Option (List ℕ)) → IsOrdered d → get (codes "op") d ≡ Some v → as_str v ≡ word
    → (f : Fault) → word_by d word ≡ Some f → IsShapeWrong d f
op_wrong_at d v None h there is f e =
    subst (IsShapeWrong d) (same_some _ f e) ((v, ap (option_and_then (value_at [])) there, is), refl)
op_wrong_at d v (Some word) h there is f e = op_wrong_at_word d v word (operation_of word) h there is refl f e

op_wrong : (d : Data) (o : Option Data) → IsOrdered d → is_some (as_object d) ≡ true → get (codes "op") d ≡ o
    → (f : Fault) → op_by d o ≡ Some f → IsShapeWrong d f
op_wrong d None h object_there is f e =
    let ms = held (as_object d) object_there in
    let same = object_is d ms.0 ms.1 in
    let lacks : LacksMember (to_member (codes "op") ∷ []) d = record {
      owner = [];
      name = codes "op";
      parts = refl;
      lacks = (d, refl, (ms.0, same, ap (get (codes "op")) (sym same) ∙ is));
      needed = inl (refl, refl);
    } in
    subst (IsShapeWrong d) (same_some _ f e) (lacks, refl)
op_wrong d (Some v) h object_there is f e = op_wrong_at d v (as_str v) h is refl f e

line_wrong : (b : Bool) (d : Data) → IsOrdered d → is_some (as_object d) ≡ b → (f : Fault)
    → cond b (op_by d (get (codes "op") d)) (here wrong.NotAnObject) ≡ Some f → IsShapeWrong d f
line_wrong true d h is f e = op_wrong d (get (codes "op") d) h is refl f e
line_wrong false d h is f e = subst (IsShapeWrong d) (same_some _ f e) ((d, refl, no_some (as_object d) is), refl)

-- what a fault of shape says is so
pub shape_wrong : (d : Data) → IsOrdered d → (f : Fault) → shape_fault d ≡ Some f → IsShapeWrong d f
unfolding shape_fault
shape_wrong d h f e = line_wrong (is_some (as_object d)) d h refl f e
