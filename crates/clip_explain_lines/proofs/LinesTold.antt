-- What is told of a line, by what it says itself.
use Rattle.std.proofs.Common.{◌≡◌, ◌<◌, ◌≤◌, ◌+◌, inl, inr, ℕ, suc, List, true, Option, Some, None}
use Rattle.std.proofs.Common.{length, map, drop, get_or, refl, sym, ap, subst, ◌∙◌, arith}
use Rattle.std.proofs.lemmas.List.{drop_all, drop_more}
use Rattle.std.specs.Prelude.{⊤}
use Rattle.std.specs.Str.{is_utf8}
use Rattle.serde_json.specs.Data.{Data}
use Rattle.clip_grammar.specs.Tree.{tree_of}
use Rattle.clip_explain.specs.Explaining.{Explains}
use Rattle.clip_explain.specs.declared.explaining.Explained.{Explained}
use Rattle.clip_explain.specs.declared.explaining.Explained.TheVariants.{Read, Refused}
use Rattle.clip_explain.specs.declared.explaining.Explanation.{Explanation}
use Rattle.clip_explain.specs.declared.explaining.Refusal.{Refusal as Why}
use Rattle.clip_stream.specs.declared.limits.TheConstants.{MOST_LINE_BYTES}
use Rattle.clip_protocol.proofs.RequestLaw.{none_is_some}
use Rattle.clip_protocol.proofs.Saying.{outline_is_said, run, said_by, says_found}
use Rattle.clip_protocol.specs.LineMeaning as line
use Rattle.clip_protocol.specs.LineMeaning.{Line, Says, IsAQuery, json_of}
use Rattle.clip_protocol.specs.Request.{Listing, Request, register, delete, clear, purge, count, show, match, value_of}
use Rattle.clip_protocol.specs.Steps.Outline.{Outline, blank, refused, registers, outline, outline_said}
use Rattle.clip_protocol.specs.Steps.Outline.{requests}
use Rattle.clip_protocol.specs.declared.refusal.Refusal.{Refusal}
use Rattle.clip_protocol.specs.declared.refusal.Refusal.TheVariants.{Long, Json, Shape, Limit, Query, Listener, Full}
use Rattle.clip_cause.proofs.Telling.{untold}
use Rattle.clip_cause.specs.Causes.{IsCauseOf, IsPlaceOf, told_of, told_refusal}
use Rattle.clip_cause.specs.Faults.{Fault}
use Rattle.clip_cause.specs.First.{HasPath, IsFirstFault, IsToldAs, Tells, TellsFirst, TellsFirstOf}
use Rattle.clip_cause.specs.Path.{Path, path_text}
use Rattle.clip_cause.specs.Wrong.{sentence_of}
use Rattle.clip_cause.specs.declared.cause.LineCause.{LineCause}
use Rattle.clip_cause.specs.declared.cause.Place.{Place}
use Rattle.clip_cause.specs.declared.cause.Place.TheVariants.{Byte, Member}
use Rattle.clip_cause.specs.declared.wrong.Wrong.{Wrong}
use Rattle.clip_explain_lines.specs.LineTold.{LineTells, TellsOfFault, TellsOfQueries, TellsOfSaid, at_byte, at_member}
use Rattle.clip_explain_lines.specs.LineTold.{not_refused, query_path, refused_there}
use Rattle.clip_explain_lines.specs.Steps.LineFaults.{IsFaultOfQuery, fault_data, place_data}
use Rattle.clip_explain_lines.specs.declared.lines.LineFault.{LineFault}

-- ---- what a line says

-- it says something, which has this outline
record HasSaid (bytes : List ℕ) (o : Outline) : Type 0 where
  says : Line Request
  is_said : Says bytes says
  outlined : o ≡ outline_said says

said_of : (bytes : List ℕ) → HasSaid bytes (outline bytes)
said_of bytes = record {
  says = said_by run bytes;
  is_said = says_found run bytes;
  outlined = outline_is_said bytes;
}

-- ---- a line whose cause is told

same_some : {A : Type 0} (x y : A) → Some x ≡ Some y → x ≡ y
same_some x y e = cc

there : (place : Place) (path : Path) → HasPath path place → place_data place ≡ at_member (path_text path)
there (Byte at) path h = absurd h
there (Member text) path h = ap at_member h

-- what is told of a cause
abbrev cause_data : LineCause → Data
cause_data c = refused_there (place_data c.place) c.refusal (sentence_of c.wrong)

fault_told : (f : Fault) (c : LineCause) (why : Refusal) → IsToldAs f c → c.refusal ≡ why
    → cause_data c ≡ refused_there (at_member (path_text f.0)) why (sentence_of f.1)
fault_told f c why told e =
    ap (λ p. refused_there p c.refusal (sentence_of c.wrong)) (there c.place f.0 told.place)
    ∙ ap (λ r. refused_there (at_member (path_text f.0)) r (sentence_of c.wrong)) e
    ∙ ap (λ w. refused_there (at_member (path_text f.0)) why (sentence_of w)) told.wrong

first_by : (bytes : List ℕ) (d : Data) (c : LineCause) (why : Refusal) (fault : Option Fault) → json_of bytes ≡ Some d
    → IsFirstFault d fault → Tells fault (Some c) → c.refusal ≡ why → TellsOfFault bytes why (cause_data c)
first_by bytes d c why None e first told is = absurd told
first_by bytes d c why (Some f) e first told is = (d, f, e, first, sym told.refusal ∙ is, fault_told f c why told is)

first_told : (bytes : List ℕ) (d : Data) (c : LineCause) (why : Refusal) → json_of bytes ≡ Some d
    → TellsFirst d (Some c) → c.refusal ≡ why → TellsOfFault bytes why (cause_data c)
first_told bytes d c why e first is = first_by bytes d c why first.0 e first.1 first.2 is

json_told : (bytes : List ℕ) (p : Place) (w : Wrong) (r : Refusal) → json_of bytes ≡ None → IsPlaceOf bytes p w
    → r ≡ Json → TellsOfSaid bytes (line.refused Json) (refused_there (place_data p) r (sentence_of w))
json_told bytes (Byte at) w r none place is =
    (at, sentence_of w, place.0, ap (λ why. refused_there (at_byte at) why (sentence_of w)) is)
json_told bytes (Member text) w r none place is = absurd (none_is_some place.0 (sym none ∙ place.1))

cause_said : (bytes : List ℕ) (c : LineCause) (s : Line Request) → Says bytes s
    → Some c.refusal ≡ told_of (outline_said s) → IsCauseOf bytes c → TellsFirstOf bytes (Some c)
    → TellsOfSaid bytes s (cause_data c)
cause_said bytes c line.blank says e cause first = absurd (none_is_some c.refusal (sym e))
cause_said bytes c (line.refused Long) says e cause first = absurd (none_is_some c.refusal (sym e))
cause_said bytes c (line.refused Json) says e cause first =
    json_told bytes c.place c.wrong c.refusal says.1 cause.place (same_some c.refusal Json e)
cause_said bytes c (line.refused Shape) says e cause first =
    first_told bytes says.1 c Shape says.2 (first says.0 says.1 says.2) (same_some c.refusal Shape e)
cause_said bytes c (line.refused Limit) says e cause first =
    first_told bytes (value_of says.1) c Limit says.2 (first says.0 (value_of says.1) says.2)
    (same_some c.refusal Limit e)
cause_said bytes c (line.refused Query) says e cause first = absurd says
cause_said bytes c (line.refused Listener) says e cause first = absurd says
cause_said bytes c (line.refused Full) says e cause first = absurd says
cause_said bytes c (line.asks r) says e cause first = absurd (none_is_some c.refusal (sym (e ∙ untold r)))

pub cause_tells : (bytes : List ℕ) (c : LineCause) (says : List ℕ) → Some c.refusal ≡ told_of (outline bytes)
    → IsCauseOf bytes c → TellsFirstOf bytes (Some c) → says ≡ sentence_of c.wrong
    → LineTells bytes (refused_there (place_data c.place) c.refusal says)
cause_tells bytes c says e cause first is =
    let s = said_of bytes in
    subst (λ text. LineTells bytes (refused_there (place_data c.place) c.refusal text)) (sym is)
    (record {
      says = s.says;
      is_said = s.is_said;
      tells =
          cause_said bytes c s.says s.is_said (e ∙ ap told_of s.outlined) cause first;
    })

-- ---- a line that is too long

same_refusal : (a r : Refusal) → refused a ≡ refused r → a ≡ r
same_refusal a r e = cc

never_blank : (r : Refusal) → blank ≡ refused r → ⊥
never_blank r e = cc

never_asks : (q : Request) (r : Refusal) → requests q ≡ refused r → ⊥
never_asks (register listings) r e = cc
never_asks (delete ids) r e = cc
never_asks clear r e = cc
never_asks purge r e = cc
never_asks count r e = cc
never_asks (show id) r e = cc
never_asks (match drafts) r e = cc

told_never : (a r : Refusal) → refused a ≡ refused r → told_refusal r ≡ None → told_refusal a ≡ Some a → ⊥
told_never a r e none told = none_is_some a (sym none ∙ ap told_refusal (sym (same_refusal a r e)) ∙ told)

long_said : (bytes says : List ℕ) (r : Refusal) (s : Line Request) → Says bytes s → outline_said s ≡ refused r
    → told_refusal r ≡ None → TellsOfSaid bytes s (refused_there (at_byte MOST_LINE_BYTES) r says)
long_said bytes says r line.blank is e none = absurd (never_blank r e)
long_said bytes says r (line.refused Long) is e none =
    (says, ap (λ why. refused_there (at_byte MOST_LINE_BYTES) why says) (sym (same_refusal Long r e)))
long_said bytes says r (line.refused Json) is e none = absurd (told_never Json r e none refl)
long_said bytes says r (line.refused Shape) is e none = absurd (told_never Shape r e none refl)
long_said bytes says r (line.refused Limit) is e none = absurd (told_never Limit r e none refl)
long_said bytes says r (line.refused Query) is e none = absurd is
long_said bytes says r (line.refused Listener) is e none = absurd is
long_said bytes says r (line.refused Full) is e none = absurd is
long_said bytes says r (line.asks q) is e none = absurd (never_asks q r e)

pub long_tells : (bytes says : List ℕ) (r : Refusal) → told_of (outline bytes) ≡ None → outline bytes ≡ refused r
    → LineTells bytes (refused_there (at_byte MOST_LINE_BYTES) r says)
long_tells bytes says r none e =
    let s = said_of bytes in
    record {
      says = s.says;
      is_said = s.is_said;
      tells =
          long_said bytes says r s.says s.is_said (sym s.outlined ∙ e) (ap told_of (sym e) ∙ none);
    }

-- ---- a register

same_listings : (ks ls : List Listing) → registers ks ≡ registers ls → ks ≡ ls
same_listings ks ls e = cc

-- the outline is that of no register and no refusal
abbrev pub IsOther : Outline → Type 0
IsOther (refused r) = ⊥
IsOther (registers listings) = ⊥
IsOther _ = ⊤

abbrev IsRegister : Outline → Type 0
IsRegister (registers listings) = ⊤
IsRegister _ = ⊥

register_said : (bytes : List ℕ) (ls : List Listing) (told : Data) (s : Line Request) → outline_said s ≡ registers ls
    → TellsOfQueries 0 ls told → TellsOfSaid bytes s told
register_said bytes ls told line.blank e tells = absurd (subst IsRegister (sym e) tt)
register_said bytes ls told (line.refused r) e tells = absurd (subst IsRegister (sym e) tt)
register_said bytes ls told (line.asks (register ks)) e tells =
    subst (λ xs. TellsOfQueries 0 xs told) (sym (same_listings ks ls e)) tells
register_said bytes ls told (line.asks (delete ids)) e tells = absurd (subst IsRegister (sym e) tt)
register_said bytes ls told (line.asks clear) e tells = absurd (subst IsRegister (sym e) tt)
register_said bytes ls told (line.asks purge) e tells = absurd (subst IsRegister (sym e) tt)
register_said bytes ls told (line.asks count) e tells = absurd (subst IsRegister (sym e) tt)
register_said bytes ls told (line.asks (show id)) e tells = absurd (subst IsRegister (sym e) tt)
register_said bytes ls told (line.asks (match drafts)) e tells = absurd (subst IsRegister (sym e) tt)

pub register_tells : (bytes : List ℕ) (ls : List Listing) (told : Data) → outline bytes ≡ registers ls
    → TellsOfQueries 0 ls told → LineTells bytes told
register_tells bytes ls told e tells =
    let s = said_of bytes in
    record { says = s.says; is_said = s.is_said; tells = register_said bytes ls told s.says (sym s.outlined ∙ e) tells }

-- ---- a line that would not be refused

other_said : (bytes : List ℕ) (s : Line Request) → IsOther (outline_said s) → TellsOfSaid bytes s not_refused
other_said bytes line.blank other = refl
other_said bytes (line.refused r) other = absurd other
other_said bytes (line.asks (register ks)) other = absurd other
other_said bytes (line.asks (delete ids)) other = refl
other_said bytes (line.asks clear) other = refl
other_said bytes (line.asks purge) other = refl
other_said bytes (line.asks count) other = refl
other_said bytes (line.asks (show id)) other = refl
other_said bytes (line.asks (match drafts)) other = refl

pub other_tells : (bytes : List ℕ) (o : Outline) → outline bytes ≡ o → IsOther o → LineTells bytes not_refused
other_tells bytes o e other =
    let s = said_of bytes in
    record {
      says = s.says;
      is_said = s.is_said;
      tells =
          other_said bytes s.says (subst IsOther (sym e ∙ s.outlined) other);
    }

-- ---- the queries of a list

abbrev pub TellsFrom : {A : Type 0} → (A → Listing) → ℕ → List A → Data → Type 0
TellsFrom view place xs told = TellsOfQueries place (map view (drop place xs)) told

pub none_left : {A : Type 0} (view : A → Listing) (place : ℕ) (xs : List A) → length xs ≤ place
    → TellsFrom view place xs not_refused
none_left view place xs le =
    subst (λ ys. TellsOfQueries place (map view ys) not_refused) (sym (drop_all place xs le)) refl

pub one_read : {A : Type 0} (view : A → Listing) (place : ℕ) (xs : List A) (x : A) (told : Data) → place < length xs
    → x ≡ get_or xs place x → IsAQuery (view x).query → TellsFrom view (place + 1) xs told
    → TellsFrom view place xs told
one_read view place xs x told lt is query tells =
    let next : place + 1 ≡ suc place = omega arith in
    subst (λ ys. TellsOfQueries place (map view ys) told) (sym (drop_more xs place x lt))
    (inl (
      subst (λ y. IsAQuery (view y).query) is query,
      subst (λ n. TellsOfQueries n (map view (drop (place + 1) xs)) told) next tells,
    ))

pub one_refused : {A : Type 0} (view : A → Listing) (place : ℕ) (xs : List A) (x : A) (told : Data) (says : List ℕ)
    → place < length xs → x ≡ get_or xs place x → ¬ (IsAQuery (view x).query)
    → told ≡ refused_there (at_member (path_text (query_path place))) Query says → TellsFrom view place xs told
one_refused view place xs x told says lt is none e =
    subst (λ ys. TellsOfQueries place (map view ys) told) (sym (drop_more xs place x lt))
    (inr (subst (λ y. ¬ (IsAQuery (view y).query)) is none, says, e))

-- ---- a text that is explained

pub read_query : (text : List ℕ) (explained : Explained) (told : Explanation) → is_utf8 text ≡ true
    → explained ≡ Read told → Explains text explained → IsAQuery text
read_query text explained told utf8 e explains =
    let is = subst (Explains text) e explains in
    (tree_of told.query, record { utf8 = utf8; reads = is.reads; kept = is.faultless })

pub refused_query : (text : List ℕ) (explained : Explained) (why : Why) → explained ≡ Refused why
    → Explains text explained → ¬ (IsAQuery text)
refused_query text explained why e explains query =
    let is = subst (Explains text) e explains in query.1.kept why.fault is.sure is.fault

-- what a fault says of a listed text
pub query_at : (text listed : List ℕ) (place : ℕ) (found : Option LineFault) → found ≡ None → text ≡ listed
    → IsFaultOfQuery text place found → IsAQuery listed
query_at text listed place found none same fault = subst IsAQuery same (subst (IsFaultOfQuery text place) none fault)

pub fault_at : (text listed : List ℕ) (place : ℕ) (found : Option LineFault) (f : LineFault) → found ≡ Some f
    → text ≡ listed → IsFaultOfQuery text place found
    → ¬ (IsAQuery listed) × (fault_data f ≡ refused_there (at_member (path_text (query_path place))) Query f.says.now)
fault_at text listed place found f some same fault =
    let is = subst (IsFaultOfQuery text place) some fault in (subst (λ t. ¬ (IsAQuery t)) same is.0, is.1)
