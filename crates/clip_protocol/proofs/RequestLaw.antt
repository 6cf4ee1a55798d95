-- A value is read as a request exactly where it is the value of it.
use Rattle.std.proofs.Common.{◌≡◌, ℕ, suc, ◌==◌, List, [], ◌∷◌, map, Bool, true, false, cond, Option, Some, None}
use Rattle.std.proofs.Common.{option_map, option_and_then, bytes_eq, refl, sym, ap, ap₂, ◌∙◌, true≢false, arith}
use Rattle.std.proofs.lemmas.Bool.{eqb-true}
use Rattle.std.proofs.lemmas.Map.Text.{is_eq-slice_cmp}
use Rattle.std.proofs.lemmas.Slice.Eq.{bytes_eq-Decides}
use Rattle.std.specs.Ordering.{nat_cmp, match_ordering, is_eq}
use Rattle.std.specs.Cmp.Lexicographic.{slice_cmp}
use Rattle.std.specs.Prelude.{codes, ⊤}
use Rattle.std.specs.declared.cmp.Ordering.{Ordering}
use Rattle.std.specs.declared.cmp.Ordering.TheVariants.{Less, Equal, Greater}
use Rattle.serde_json.specs.Data.{Data, null, boolean, number, string, array, object, Items, no_items, item, Members}
use Rattle.serde_json.specs.Data.{no_members, member}
use Rattle.serde_json.specs.Events.{members_len}
use Rattle.serde_json.specs.Find.{get, as_str, as_array, as_object}
use Rattle.serde_json.specs.View.{items_of}
use Rattle.clip_protocol.specs.Request.{Listing, Draft, Request, register, delete, clear, purge, count, show, match}
use Rattle.clip_protocol.specs.Request.{members_from, object_of, listing_value, field_value, draft_value, value_of}
use Rattle.clip_protocol.specs.Steps.Outline.{take_member, when_none_left, two_of, two_members, three_members, all_of}
use Rattle.clip_protocol.specs.Steps.Outline.{fields_of, plain_listing_of, heard_listing_of, listing_of, draft_of}
use Rattle.clip_protocol.specs.Steps.Outline.{operations, operation_in, has_members, counts_members, register_of}
use Rattle.clip_protocol.specs.Steps.Outline.{delete_of, show_of, match_of, request_by, request_of, named_in, asked_in}
use Rattle.clip_protocol.specs.declared.request.Operation.{Operation}
use Rattle.clip_protocol.specs.declared.request.Operation.TheVariants as operation

-- ---- the value of a request is read as it

pub all_of-map : {A : Type 0} (value : A → Data) (f : Data → Option A) → ((x : A) → f (value x) ≡ Some x)
    → (xs : List A) → all_of f (items_of (map value xs)) ≡ Some xs
all_of-map value f one [] = refl
all_of-map value f one (x ∷ xs) =
    ap (option_and_then (λ y. option_map (λ ys. y ∷ ys) (all_of f (items_of (map value xs))))) (one x)
    ∙ ap (option_map (λ ys. x ∷ ys)) (all_of-map value f one xs)

fields_of-map : (fs : List (List ℕ × List ℕ)) → fields_of (members_from (map field_value fs)) ≡ Some fs
fields_of-map [] = refl
fields_of-map (f ∷ fs) = ap (option_map (λ gs. f ∷ gs)) (fields_of-map fs)

value_by : (id query : List ℕ) (listener : Option (List ℕ))
    → listing_of (listing_value (record { id = id; query = query; listener = listener }))
    ≡ Some (record { id = id; query = query; listener = listener })
unfolding listing_of plain_listing_of heard_listing_of has_members
value_by id query None = refl
value_by id query (Some name) = refl

pub listing_of-value : (l : Listing) → listing_of (listing_value l) ≡ Some l
listing_of-value l = value_by l.id l.query l.listener

pub draft_of-value : (d : Draft) → draft_of (draft_value d) ≡ Some d
unfolding draft_of
draft_of-value d = ap (λ o. option_map (λ fields. record { id = d.id; fields = fields }) o) (fields_of-map d.fields)

pub request_of-value_of : (r : Request) → request_of (value_of r) ≡ Some r
unfolding request_of operation_in register_of delete_of show_of match_of has_members
request_of-value_of (register listings) =
    ap (option_map register) (all_of-map listing_value listing_of listing_of-value listings)
request_of-value_of (delete ids) = ap (option_map delete) (all_of-map string as_str (λ s. refl) ids)
request_of-value_of clear = refl
request_of-value_of purge = refl
request_of-value_of count = refl
request_of-value_of (show id) = refl
request_of-value_of (match drafts) = ap (option_map match) (all_of-map draft_value draft_of draft_of-value drafts)

-- ---- what is read as a request is its value

pub none_is_some : {A : Type 0} (x : A) → None ≡ Some x → ⊥
none_is_some x e = cc

-- an option that leads on to something has something
pub led : {A B : Type 0} (o : Option A) (f : A → Option B) (y : B) → option_and_then f o ≡ Some y
    → (x : A) × (o ≡ Some x) × (f x ≡ Some y)
led None f y e = absurd (none_is_some y e)
led (Some x) f y e = (x, refl, e)

pub mapped : {A B : Type 0} (o : Option A) (f : A → B) (y : B) → option_map f o ≡ Some y
    → (x : A) × (o ≡ Some x) × (f x ≡ y)
mapped None f y e = absurd (none_is_some y e)
mapped (Some x) f y e = (x, refl, cc)

pub when : {A : Type 0} (b : Bool) (x y : A) → cond b (Some x) None ≡ Some y → (b ≡ true) × (x ≡ y)
when true x y e = (refl, cc)
when false x y e = absurd (none_is_some y e)

pub text_is : (d : Data) (s : List ℕ) → as_str d ≡ Some s → d ≡ string s
text_is null s e = absurd (none_is_some s e)
text_is (boolean b) s e = absurd (none_is_some s e)
text_is (number n) s e = absurd (none_is_some s e)
text_is (string t) s e = let same : t ≡ s = cc in ap string same
text_is (array ds) s e = absurd (none_is_some s e)
text_is (object ms) s e = absurd (none_is_some s e)

pub array_is : (d : Data) (ds : Items) → as_array d ≡ Some ds → d ≡ array ds
array_is null ds e = absurd (none_is_some ds e)
array_is (boolean b) ds e = absurd (none_is_some ds e)
array_is (number n) ds e = absurd (none_is_some ds e)
array_is (string t) ds e = absurd (none_is_some ds e)
array_is (array es) ds e = let same : es ≡ ds = cc in ap array same
array_is (object ms) ds e = absurd (none_is_some ds e)

pub object_is : (d : Data) (ms : Members) → as_object d ≡ Some ms → d ≡ object ms
object_is null ms e = absurd (none_is_some ms e)
object_is (boolean b) ms e = absurd (none_is_some ms e)
object_is (number n) ms e = absurd (none_is_some ms e)
object_is (string t) ms e = absurd (none_is_some ms e)
object_is (array es) ms e = absurd (none_is_some ms e)
object_is (object ns) ms e = let same : ns ≡ ms = cc in ap object same

pub taken_is : (name : List ℕ) (ms : Members) (p : Data × Members) → take_member name ms ≡ Some p
    → ms ≡ member name p.0 p.1
taken_is name no_members p e = absurd (none_is_some p e)
taken_is name (member k d ms) p e =
    let w = when (bytes_eq k name) (d, ms) p e in
    ap (λ n. member n d ms) ((bytes_eq-Decides k name).0 w.0) ∙ ap (λ q. member name q.0 q.1) w.1

none_left : {A : Type 0} (x y : A) (ms : Members) → when_none_left x ms ≡ Some y → (ms ≡ no_members) × (x ≡ y)
none_left x y no_members e = (refl, cc)
none_left x y (member k d ms) e = absurd (none_is_some y e)

pub two_are_of : (first second : List ℕ) (ms : Members) (p : Data × Data) → two_of first second ms ≡ Some p
    → ms ≡ members_from ((first, p.0) ∷ (second, p.1) ∷ [])
two_are_of first second ms p e =
    let one = led (take_member first ms) _ p e in
    let two = led (take_member second one.0.1) _ p one.2 in
    let left = none_left _ p two.0.1 two.2 in
    taken_is first ms one.0 one.1
    ∙ ap (member first one.0.0) (taken_is second one.0.1 two.0 two.1 ∙ ap (member second two.0.0) left.0)
    ∙ ap (λ q. members_from ((first, q.0) ∷ (second, q.1) ∷ [])) left.1

pub two_are : (first second : List ℕ) (d : Data) (p : Data × Data) → two_members first second d ≡ Some p
    → d ≡ object_of ((first, p.0) ∷ (second, p.1) ∷ [])
two_are first second d p e =
    let o = led (as_object d) _ p e in
    object_is d o.0 o.1 ∙ ap object (two_are_of first second o.0 p o.2)

pub three_are : (first second third : List ℕ) (d : Data) (p : Data × (Data × Data))
    → three_members first second third d ≡ Some p → d ≡ object_of ((first, p.0) ∷ (second, p.1.0) ∷ (third, p.1.1) ∷ [])
three_are first second third d p e =
    let o = led (as_object d) _ p e in
    let one = led (take_member first o.0) _ p o.2 in
    let rest = mapped (two_of second third one.0.1) _ p one.2 in
    object_is d o.0 o.1 ∙ ap object
    (taken_is first o.0 one.0 one.1 ∙ ap (member first one.0.0) (two_are_of second third one.0.1 rest.0 rest.1))
    ∙ ap (λ q. object_of ((first, q.0) ∷ (second, q.1.0) ∷ (third, q.1.1) ∷ [])) rest.2

pub all_are : {A : Type 0} (value : A → Data) (f : Data → Option A) → ((d : Data) (x : A) → f d ≡ Some x → d ≡ value x)
    → (ds : Items) (xs : List A) → all_of f ds ≡ Some xs → ds ≡ items_of (map value xs)
all_are value f one no_items xs e = let none : [] ≡ xs = cc in ap (λ ys. items_of (map value ys)) none
all_are value f one (item d ds) xs e =
    let first = led (f d) _ xs e in
    let rest = mapped (all_of f ds) _ xs first.2 in
    ap₂ item (one d first.0 first.1) (all_are value f one ds rest.0 rest.1) ∙ ap (λ ys. items_of (map value ys)) rest.2

fields_are : (ms : Members) (fs : List (List ℕ × List ℕ)) → fields_of ms ≡ Some fs
    → ms ≡ members_from (map field_value fs)
fields_are no_members fs e = let none : [] ≡ fs = cc in ap (λ gs. members_from (map field_value gs)) none
fields_are (member k d ms) fs e =
    let first = led (as_str d) _ fs e in
    let rest = mapped (fields_of ms) _ fs first.2 in
    ap₂ (member k) (text_is d first.0 first.1) (fields_are ms rest.0 rest.1)
    ∙ ap (λ gs. members_from (map field_value gs)) rest.2

plain_is : (d : Data) (l : Listing) → plain_listing_of d ≡ Some l → d ≡ listing_value l
unfolding plain_listing_of
plain_is d l e =
    let p = led (two_members (codes "id") (codes "query") d) _ l e in
    let id = led (as_str p.0.0) _ l p.2 in
    let text = mapped (as_str p.0.1) _ l id.2 in
    two_are (codes "id") (codes "query") d p.0 p.1
    ∙ ap₂ (λ x y. object_of ((codes "id", x) ∷ (codes "query", y) ∷ [])) (text_is p.0.0 id.0 id.1)
    (text_is p.0.1 text.0 text.1) ∙ ap listing_value text.2

heard_is : (d : Data) (l : Listing) → heard_listing_of d ≡ Some l → d ≡ listing_value l
unfolding heard_listing_of
heard_is d l e =
    let p = led (three_members (codes "id") (codes "listener") (codes "query") d) _ l e in
    let id = led (as_str p.0.0) _ l p.2 in
    let name = led (as_str p.0.1.0) _ l id.2 in
    let text = mapped (as_str p.0.1.1) _ l name.2 in
    three_are (codes "id") (codes "listener") (codes "query") d p.0 p.1
    ∙ ap₂ (λ x y. object_of ((codes "id", x) ∷ (codes "listener", y) ∷ (codes "query", p.0.1.1) ∷ []))
    (text_is p.0.0 id.0 id.1) (text_is p.0.1.0 name.0 name.1)
    ∙ ap (λ y. object_of ((codes "id", string id.0) ∷ (codes "listener", string name.0) ∷ (codes "query", y) ∷ []))
    (text_is p.0.1.1 text.0 text.1) ∙ ap listing_value text.2

either_is : (b : Bool) (d : Data) (l : Listing) → cond b (heard_listing_of d) (plain_listing_of d) ≡ Some l
    → d ≡ listing_value l
either_is true d l e = heard_is d l e
either_is false d l e = plain_is d l e

pub listing_is : (d : Data) (l : Listing) → listing_of d ≡ Some l → d ≡ listing_value l
unfolding listing_of
listing_is d l e = either_is (has_members 3 d) d l e

pub draft_is : (d : Data) (a : Draft) → draft_of d ≡ Some a → d ≡ draft_value a
unfolding draft_of
draft_is d a e =
    let p = led (two_members (codes "fields") (codes "id") d) _ a e in
    let id = led (as_str p.0.1) _ a p.2 in
    let fields = mapped (option_and_then fields_of (as_object p.0.0)) _ a id.2 in
    let members = led (as_object p.0.0) fields_of fields.0 fields.1 in
    let first = object_is p.0.0 members.0 members.1 ∙ ap object (fields_are members.0 fields.0 members.2) in
    two_are (codes "fields") (codes "id") d p.0 p.1
    ∙ ap₂ (λ x y. object_of ((codes "fields", x) ∷ (codes "id", y) ∷ [])) first (text_is p.0.1 id.0 id.1)
    ∙ ap draft_value fields.2

-- ---- operations by their names

-- by names of the operations, where the first that is found has the word for its name
pub named_by : {O : Type 0} (name : O → List ℕ) (b : Bool) (word : List ℕ) (o : O) (rest : Option O) (found : O)
    → (b ≡ true → word ≡ name o) → (rest ≡ Some found → word ≡ name found) → cond b (Some o) rest ≡ Some found
    → word ≡ name found
named_by name true word o rest found is more e = let same : o ≡ found = cc in is refl ∙ ap name same
named_by name false word o rest found is more e = more e

-- each has its name
abbrev pub AreNamed : {O : Type 0} → (O → List ℕ) → List (List ℕ × O) → Type 0
AreNamed name [] = ⊤
AreNamed name (p ∷ ps) = (p.0 ≡ name p.1) × AreNamed name ps

named_is : {O : Type 0} (name : O → List ℕ) (these : List (List ℕ × O)) → AreNamed name these → (word : List ℕ)
    (o : O) → named_in these word ≡ Some o → word ≡ name o
named_is name [] are word o e = absurd (none_is_some o e)
named_is name (p ∷ ps) are word o e =
    named_by name (bytes_eq word p.0) word p.1 (named_in ps word) o
    (λ same. (bytes_eq-Decides word p.0).0 same ∙ are.0) (named_is name ps are.1 word o) e

-- the value of the member by which the operation is told
pub word_text : (d x : Data) (word : List ℕ) → get (codes "op") d ≡ Some x
    → option_and_then as_str (get (codes "op") d) ≡ Some word → x ≡ string word
word_text d x word found e =
    let value = led (get (codes "op") d) as_str word e in
    let same : x ≡ value.0 = cc (found, value.1) in
    same ∙ text_is value.0 word value.2

pub name_text : {O : Type 0} (name : O → List ℕ) (these : List (List ℕ × O)) → AreNamed name these → (d x : Data)
    (o : O) → get (codes "op") d ≡ Some x → asked_in these d ≡ Some o → x ≡ string (name o)
name_text name these are d x o found e =
    let word = led (option_and_then as_str (get (codes "op") d)) (named_in these) o e in
    word_text d x word.0 found word.1 ∙ ap string (named_is name these are word.0 o word.2)

-- ---- objects of one member

pub lone_members : (ms : Members) → (members_len ms == 1) ≡ true
    → (k : List ℕ) × (x : Data) × (ms ≡ member k x no_members)
lone_members no_members e = absurd (true≢false (sym e))
lone_members (member k x no_members) e = (k, x, refl)
lone_members (member k x (member l y ms)) e = let two : suc (suc (members_len ms)) ≡ 1 = eqb-true _ _ e in
    absurd (omega (arith, two))

lone_by : (o : Option Members) → counts_members 1 o ≡ true
    → (k : List ℕ) × (x : Data) × (o ≡ Some (member k x no_members))
lone_by None e = absurd (true≢false (sym e))
lone_by (Some ms) e = let m = lone_members ms e in (m.0, m.1, ap Some m.2)

met : (o : Ordering) (x y : Data) → match_ordering o None (Some x) None ≡ Some y → (is_eq o ≡ true) × (x ≡ y)
met Less x y e = absurd (none_is_some y e)
met Equal x y e = (refl, cc)
met Greater x y e = absurd (none_is_some y e)

pub lone_word : (d : Data) (word : List ℕ) → has_members 1 d ≡ true → option_and_then as_str (get (codes "op") d)
    ≡ Some word → d ≡ object_of ((codes "op", string word) ∷ [])
unfolding has_members
lone_word d word one e =
    let lone = lone_by (as_object d) one in
    let shape = object_is d _ lone.2 in
    let value = led (get (codes "op") d) as_str word e in
    let here = met (slice_cmp nat_cmp (codes "op") lone.0) lone.1 value.0 (ap (get (codes "op")) (sym shape) ∙ value.1)
    in
    let key : codes "op" ≡ lone.0 =
    (bytes_eq-Decides (codes "op") lone.0).0 (sym (is_eq-slice_cmp (codes "op") lone.0) ∙ here.0) in
    shape ∙ ap₂ (λ k x. object (member k x no_members)) (sym key) (here.1 ∙ text_is value.0 word value.2)

pub lone_is : {O : Type 0} (name : O → List ℕ) (these : List (List ℕ × O)) → AreNamed name these → (d : Data) (o : O)
    → has_members 1 d ≡ true → asked_in these d ≡ Some o → d ≡ object_of ((codes "op", string (name o)) ∷ [])
lone_is name these are d o one e =
    let word = led (option_and_then as_str (get (codes "op") d)) (named_in these) o e in
    lone_word d word.0 one word.1
    ∙ ap (λ w. object_of ((codes "op", string w) ∷ [])) (named_is name these are word.0 o word.2)

-- ---- the law

name_of : Operation → List ℕ
name_of operation.Register = codes "register"
name_of operation.Delete = codes "delete"
name_of operation.Clear = codes "clear"
name_of operation.Purge = codes "purge"
name_of operation.Count = codes "count"
name_of operation.Show = codes "show"
name_of operation.Match = codes "match"

are_named : AreNamed name_of operations
unfolding name_of
are_named = (refl, (refl, (refl, (refl, (refl, (refl, (refl, tt)))))))

told : (d x : Data) (o : Operation) → get (codes "op") d ≡ Some x → operation_in d ≡ Some o → x ≡ string (name_of o)
unfolding operation_in
told d x o found e = name_text name_of operations are_named d x o found e

lone : (d : Data) (o : Operation) → has_members 1 d ≡ true → operation_in d ≡ Some o
    → d ≡ object_of ((codes "op", string (name_of o)) ∷ [])
unfolding operation_in
lone d o one e = lone_is name_of operations are_named d o one e

request_is : (d : Data) (o : Operation) (r : Request) → operation_in d ≡ Some o → request_by d o ≡ Some r
    → d ≡ value_of r
unfolding register_of delete_of show_of match_of name_of
request_is d operation.Register r op e =
    let all = mapped _ register r e in
    let p = led (two_members (codes "op") (codes "queries") d) _ all.0 all.1 in
    let items = led (as_array p.0.1) _ all.0 p.2 in
    let shape = two_are (codes "op") (codes "queries") d p.0 p.1 in
    let word = told d p.0.0 operation.Register (ap (get (codes "op")) shape) op in
    shape ∙ ap₂ (λ x y. object_of ((codes "op", x) ∷ (codes "queries", y) ∷ [])) word (array_is p.0.1 items.0 items.1
    ∙ ap array (all_are listing_value listing_of listing_is items.0 all.0 items.2)) ∙ ap value_of all.2
request_is d operation.Delete r op e =
    let all = mapped _ delete r e in
    let p = led (two_members (codes "ids") (codes "op") d) _ all.0 all.1 in
    let items = led (as_array p.0.0) _ all.0 p.2 in
    let shape = two_are (codes "ids") (codes "op") d p.0 p.1 in
    let word = told d p.0.1 operation.Delete (ap (get (codes "op")) shape) op in
    shape ∙ ap₂ (λ x y. object_of ((codes "ids", x) ∷ (codes "op", y) ∷ [])) (array_is p.0.0 items.0 items.1
    ∙ ap array (all_are string as_str text_is items.0 all.0 items.2)) word ∙ ap value_of all.2
request_is d operation.Clear r op e = let w = when (has_members 1 d) clear r e in lone d operation.Clear w.0 op
    ∙ ap value_of w.1
request_is d operation.Purge r op e = let w = when (has_members 1 d) purge r e in lone d operation.Purge w.0 op
    ∙ ap value_of w.1
request_is d operation.Count r op e = let w = when (has_members 1 d) count r e in lone d operation.Count w.0 op
    ∙ ap value_of w.1
request_is d operation.Show r op e =
    let id = mapped _ show r e in
    let p = led (two_members (codes "id") (codes "op") d) _ id.0 id.1 in
    let shape = two_are (codes "id") (codes "op") d p.0 p.1 in
    let word = told d p.0.1 operation.Show (ap (get (codes "op")) shape) op in
    shape ∙ ap₂ (λ x y. object_of ((codes "id", x) ∷ (codes "op", y) ∷ [])) (text_is p.0.0 id.0 p.2) word
    ∙ ap value_of id.2
request_is d operation.Match r op e =
    let all = mapped _ match r e in
    let p = led (two_members (codes "articles") (codes "op") d) _ all.0 all.1 in
    let items = led (as_array p.0.0) _ all.0 p.2 in
    let shape = two_are (codes "articles") (codes "op") d p.0 p.1 in
    let word = told d p.0.1 operation.Match (ap (get (codes "op")) shape) op in
    shape ∙ ap₂ (λ x y. object_of ((codes "articles", x) ∷ (codes "op", y) ∷ [])) (array_is p.0.0 items.0 items.1
    ∙ ap array (all_are draft_value draft_of draft_is items.0 all.0 items.2)) word ∙ ap value_of all.2

pub value_of-request_of : (d : Data) (r : Request) → request_of d ≡ Some r → d ≡ value_of r
unfolding request_of
value_of-request_of d r e = let o = led (operation_in d) (request_by d) r e in request_is d o.0 r o.1 o.2
