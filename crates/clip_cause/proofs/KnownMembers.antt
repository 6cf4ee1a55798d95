-- Objects that have known members alone, in order.
use Rattle.std.proofs.Common.{◌≡◌, ◌⊎◌, inl, inr, ℕ, ◌||◌, List, [], ◌∷◌, Bool, true, false, cond, Some, None}
use Rattle.std.proofs.Common.{option_map, bytes_eq, refl, sym, ap, subst, ◌∙◌, true≢false}
use Rattle.std.proofs.lemmas.Cmp.{nat_list_cmp_total}
use Rattle.std.proofs.lemmas.Map.Text.{is_eq-slice_cmp}
use Rattle.std.proofs.lemmas.Slice.Eq.{bytes_eq-Decides}
use Rattle.std.specs.List.{list_any}
use Rattle.std.specs.Ordering.{match_ordering, ordering_reverse, is_eq}
use Rattle.std.specs.Prelude.{is_some, ⊤}
use Rattle.serde_json.specs.Data.{Data, null, boolean, number, string, array, object, Members, no_members, member}
use Rattle.serde_json.specs.Find.{get, get_member}
use Rattle.clip_cause.specs.Steps.Ordered.{IsBefore, IsBeforeAll, IsOrdered, AreMembersOrdered}
use Rattle.clip_cause.specs.Faults.{named}
use Rattle.clip_cause.specs.Shapes.{missing, unknown, names_fault}
use Rattle.clip_cause.specs.declared.wrong.Wrong.TheVariants.{Missing, Unknown}
use Rattle.clip_cause.proofs.Options.{some_is_none, passed, both_none, none_mapped}

-- ---- objects whose members are known

later : (n k : List ℕ) → IsBefore n k → bytes_eq k n ≡ false
later n k b = sym (is_eq-slice_cmp k n) ∙ ap is_eq (nat_list_cmp_total.antisymm k n ∙ ap ordering_reverse b)

-- the names behind this one
abbrev pub AreBehind : List ℕ → List (List ℕ) → Type 0
AreBehind n [] = ⊤
AreBehind n (m ∷ ms) = IsBefore n m × AreBehind n ms

behind_at : (n k m : List ℕ) (ms : List (List ℕ)) (b : Bool) → bytes_eq k m ≡ b → (b || list_any (bytes_eq k) ms)
    ≡ true → IsBefore n m → (list_any (bytes_eq k) ms ≡ true → IsBefore n k) → IsBefore n k
behind_at n k m ms true is e h more = subst (IsBefore n) (sym ((bytes_eq-Decides k m).0 is)) h
behind_at n k m ms false is e h more = more e

behind : (n k : List ℕ) (names : List (List ℕ)) → AreBehind n names → list_any (bytes_eq k) names ≡ true → IsBefore n k
behind n k [] h e = cc
behind n k (m ∷ ms) h e = behind_at n k m ms (bytes_eq k m) refl e h.0 (behind n k ms h.1)

before_all : (n k : List ℕ) (ms : Members) → IsBefore n k → IsBeforeAll k ms → IsBeforeAll n ms
before_all n k no_members b h = tt
before_all n k (member l d ms) b h = (nat_list_cmp_total.trans n k l b h.0, before_all n k ms b h.1)

absent : (n : List ℕ) (ms : Members) → IsBeforeAll n ms → get_member n ms ≡ None
absent n no_members h = refl
absent n (member k d ms) h = ap (λ o. match_ordering o (get_member n ms) (Some d) (get_member n ms)) h.0
    ∙ absent n ms h.1

-- a name that is before those of all members need not be known
fewer_at : (n : List ℕ) (names : List (List ℕ)) (k : List ℕ) (ms : Members) (b : Bool)
    → list_any (bytes_eq k) names ≡ b → cond b (unknown (n ∷ names) ms) (Some k) ≡ None
    → (unknown (n ∷ names) ms ≡ None → unknown names ms ≡ None) → cond b (unknown names ms) (Some k) ≡ None
fewer_at n names k ms true is e more = more e
fewer_at n names k ms false is e more = e

fewer : (n : List ℕ) (names : List (List ℕ)) (ms : Members) → IsBeforeAll n ms → unknown (n ∷ names) ms ≡ None
    → unknown names ms ≡ None
fewer n names no_members h e = refl
fewer n names (member k d ms) h e =
    let off : bytes_eq k n ≡ false = later n k h.0 in
    let e2 : cond (list_any (bytes_eq k) names) (unknown (n ∷ names) ms) (Some k) ≡ None =
    ap (λ b. cond (b || list_any (bytes_eq k) names) (unknown (n ∷ names) ms) (Some k)) (sym off) ∙ e in
    fewer_at n names k ms (list_any (bytes_eq k) names) refl e2 (fewer n names ms h.1)

-- the first member has this name, or no member has it
pub record Begins (n : List ℕ) (names : List (List ℕ)) (ms : Members) : Type 0 where
  pub value : Data
  pub rest : Members
  pub is : ms ≡ member n value rest
  pub known : unknown names rest ≡ None
  pub behind : IsBeforeAll n rest
  pub ordered : IsOrdered value × AreMembersOrdered rest

pub record Lacks (n : List ℕ) (names : List (List ℕ)) (ms : Members) : Type 0 where
  pub none : get_member n ms ≡ None
  pub known : unknown names ms ≡ None

begins_at : (n : List ℕ) (names : List (List ℕ)) (k : List ℕ) (d : Data) (ms : Members) (b : Bool) → AreBehind n names
    → AreMembersOrdered (member k d ms) → bytes_eq k n ≡ b
    → cond (b || list_any (bytes_eq k) names) (unknown (n ∷ names) ms) (Some k) ≡ None
    → unknown (n ∷ names) (member k d ms) ≡ None → Begins n names (member k d ms) ⊎ Lacks n names (member k d ms)
begins_at n names k d ms true ns h is e whole =
    let same : k ≡ n = (bytes_eq-Decides k n).0 is in
    let front = subst (λ m. IsBeforeAll m ms) same h.0 in
    inl (record {
      value = d;
      rest = ms;
      is = ap (λ m. member m d ms) same;
      known = fewer n names ms front e;
      behind =
          front;
      ordered = h.1;
    })
begins_at n names k d ms false ns h is e whole =
    let p = passed (list_any (bytes_eq k) names) _ k e in
    let b = behind n k names ns p.0 in
    let all : IsBeforeAll n (member k d ms) = (b, before_all n k ms b h.0) in
    inr (record { none = absent n (member k d ms) all; known = fewer n names (member k d ms) all whole })

pub begins : (n : List ℕ) (names : List (List ℕ)) (ms : Members) → AreBehind n names → AreMembersOrdered ms
    → unknown (n ∷ names) ms ≡ None → Begins n names ms ⊎ Lacks n names ms
begins n names no_members ns h e = inr (record { none = refl; known = refl })
begins n names (member k d ms) ns h e = begins_at n names k d ms (bytes_eq k n) ns h refl e e

pub none_known : (ms : Members) → unknown [] ms ≡ None → ms ≡ no_members
none_known no_members e = refl
none_known (member k d ms) e = absurd (some_is_none k e)

there : (n : List ℕ) (ms : Members) → is_some (get_member n ms) ≡ true → get_member n ms ≡ None → ⊥
there n ms has none = true≢false (sym has ∙ ap is_some none)

-- a name that is there is that of the first member
pub begins_there : (n : List ℕ) (names : List (List ℕ)) (ms : Members) → AreBehind n names → AreMembersOrdered ms
    → unknown (n ∷ names) ms ≡ None → is_some (get_member n ms) ≡ true → Begins n names ms
begins_there n names ms ns h e has =
    elim (begins n names ms ns h e) [ inl b ↦ b | inr l ↦ absurd (there n ms has l.none) ]

-- a name that comes later is looked for among the other members
pub skipped : (n m : List ℕ) (d : Data) (ms : Members) → IsBefore n m → get_member m (member n d ms) ≡ get_member m ms
skipped n m d ms b = ap (λ o. match_ordering o (get_member m ms) (Some d) (get_member m ms))
    (nat_list_cmp_total.antisymm m n ∙ ap ordering_reverse b)

-- ---- objects whose names have no fault

-- the value is an object that lacks no needed member and has none that is not known
pub record IsNamedWell (needed known : List (List ℕ)) (d : Data) : Type 0 where
  pub members : Members
  pub is : d ≡ object members
  pub needs : missing needed (object members) ≡ None
  pub knows : unknown known members ≡ None

pub named_well : (needed known : List (List ℕ)) (d : Data) → names_fault needed known d ≡ None
    → IsNamedWell needed known d
named_well needed known null e = absurd (some_is_none _ e)
named_well needed known (boolean b) e = absurd (some_is_none _ e)
named_well needed known (number n) e = absurd (some_is_none _ e)
named_well needed known (string s) e = absurd (some_is_none _ e)
named_well needed known (array ds) e = absurd (some_is_none _ e)
named_well needed known (object ms) e =
    let p = both_none (option_map (named Missing) (missing needed (object ms)))
    (option_map (named Unknown) (unknown known ms)) e in
    record {
      members = ms;
      is = refl;
      needs = none_mapped (named Missing) _ p.0;
      knows =
          none_mapped (named Unknown) _ p.1;
    }

-- the first of the names that are needed is there, and the others lack none
pub needed_first : (n : List ℕ) (names : List (List ℕ)) (d : Data) → missing (n ∷ names) d ≡ None
    → (is_some (get n d) ≡ true) × (missing names d ≡ None)
needed_first n names d e = passed (is_some (get n d)) (missing names d) n e

pub record HasOne (n : List ℕ) (d : Data) : Type 0 where
  pub first : Data
  pub is : d ≡ object (member n first no_members)

pub one_member : (n : List ℕ) (d : Data) → IsOrdered d → names_fault (n ∷ []) (n ∷ []) d ≡ None → HasOne n d
one_member n d h e =
    let w = named_well (n ∷ []) (n ∷ []) d e in
    let one = begins_there n [] w.members tt (subst IsOrdered w.is h) w.knows
    (needed_first n [] (object w.members) w.needs).0 in
    record {
      first = one.value;
      is =
          w.is ∙ ap object (one.is ∙ ap (member n one.value) (none_known one.rest one.known));
    }

pub record HasTwo (n m : List ℕ) (d : Data) : Type 0 where
  pub first : Data
  pub second : Data
  pub is : d ≡ object (member n first (member m second no_members))
  pub ordered : IsOrdered first × IsOrdered second

-- a member that is needed is looked for behind the first
pub needed_behind : (n m : List ℕ) (d : Data) (ms rest : Members) → IsBefore n m → ms ≡ member n d rest
    → is_some (get_member m ms) ≡ true → is_some (get_member m rest) ≡ true
needed_behind n m d ms rest b is has = ap is_some (sym (skipped n m d rest b))
    ∙ ap (λ s. is_some (get_member m s)) (sym is) ∙ has

pub two_members : (n m : List ℕ) (d : Data) → IsBefore n m → IsOrdered d → names_fault (n ∷ m ∷ []) (n ∷ m ∷ []) d
    ≡ None → HasTwo n m d
two_members n m d b h e =
    let w = named_well (n ∷ m ∷ []) (n ∷ m ∷ []) d e in
    let p = needed_first n (m ∷ []) (object w.members) w.needs in
    let q = needed_first m [] (object w.members) p.1 in
    let one = begins_there n (m ∷ []) w.members (b, tt) (subst IsOrdered w.is h) w.knows p.0 in
    let two = begins_there m [] one.rest tt one.ordered.1 one.known
    (needed_behind n m one.value w.members one.rest b one.is q.0) in
    record {
      first = one.value;
      second = two.value;
      is = w.is ∙ ap object (one.is
          ∙ ap (member n one.value) (two.is ∙ ap (member m two.value) (none_known two.rest two.known)));
      ordered = (one.ordered.0, two.ordered.0);
    }
