-- What is told of a line, from what is told of its value.
use Rattle.std.proofs.Common.{◌≡◌, inl, inr, ℕ, List, Bool, true, false, cond, Option, Some, None}
use Rattle.std.proofs.Common.{option_map, Result, Ok, Err, refl, sym, ap, subst, ◌∙◌}
use Rattle.std.specs.Prelude.{IfOk}
use Rattle.serde_json.specs.Data.{Data}
use Rattle.clip_model.specs.History.{History, Command, Register, Delete, Clear, has_room}
use Rattle.clip_protocol.proofs.Meanings.{means_to}
use Rattle.clip_protocol.proofs.RequestLaw.{none_is_some, value_of-request_of}
use Rattle.clip_protocol.proofs.Saying.{Requests, outline_by_value, says_found}
use Rattle.clip_protocol.specs.LineMeaning as line
use Rattle.clip_protocol.specs.LineMeaning.{Meaning, Means, SaysBy, json_of, is_blank, is_long}
use Rattle.clip_protocol.specs.Request.{Request, register, delete, clear, purge, count, show, match, value_of}
use Rattle.clip_protocol.specs.Steps.Outline.{Outline, MeansOutline, blank, refused, registers, deletes, clears, purges}
use Rattle.clip_protocol.specs.Steps.Outline.{counts, shows, matches, outline, outline_of_asked, outline_of_request}
use Rattle.clip_protocol.specs.Steps.Outline.{outline_of_line, request_of, requests}
use Rattle.clip_protocol.specs.Steps.Saying.{line_value, said_of}
use Rattle.clip_protocol.specs.declared.refusal.Refusal.{Refusal}
use Rattle.clip_protocol.specs.declared.refusal.Refusal.TheVariants.{Long, Json, Shape, Limit, Query, Listener, Full}
use Rattle.clip_cause.proofs.LimitCauses.{limit_wrong}
use Rattle.clip_cause.proofs.LimitLaw.{within_from_fault, within_from_limits}
use Rattle.clip_cause.proofs.ShapeCauses.{shape_wrong}
use Rattle.clip_cause.proofs.ShapeLaw.{unread_from_fault}
use Rattle.clip_cause.proofs.Shaped.{read_from_shape}
use Rattle.clip_cause.specs.Causes.{IsCauseOf, IsPlaceOf, IsWrongAt, told_by, told_of}
use Rattle.clip_cause.specs.Limits.{limit_fault}
use Rattle.clip_cause.specs.Steps.Ordered.{IsOrdered}
use Rattle.clip_cause.specs.Shapes.{shape_fault}
use Rattle.clip_cause.specs.Faults.{Fault}
use Rattle.clip_cause.specs.First.{HasPath, ComesFirst, IsToldAs, Tells, TellsFirst, TellsFirstOf}
use Rattle.clip_cause.specs.Steps.Telling.{IsCauseIn, TellsOf, TellsOfLine}
use Rattle.clip_cause.specs.Wrong.{refusal_of}
use Rattle.clip_cause.specs.declared.cause.LineCause.{LineCause}
use Rattle.clip_cause.specs.declared.cause.Place.{Place}
use Rattle.clip_cause.specs.declared.cause.Place.TheVariants.{Byte, Member}
use Rattle.clip_cause.specs.declared.wrong.Wrong.{Wrong}

-- ---- requests

pub untold : (r : Request) → told_of (requests r) ≡ None
untold (register listings) = refl
untold (delete ids) = refl
untold clear = refl
untold purge = refl
untold count = refl
untold (show id) = refl
untold (match drafts) = refl

pub request_beyond : (r : Request) (f : Fault) (c : LineCause) → limit_fault r ≡ Some f → IsToldAs f c
    → TellsOf (value_of r) (outline_of_request r) (Some c)
request_beyond r f c e told =
    let w = limit_wrong r f e in
    let refusal : c.refusal ≡ Limit = told.refusal ∙ w.1 in (
      ap (λ b. told_of (cond b (requests r) (refused Limit))) (within_from_fault r f e)
          ∙ ap Some (sym refusal),
      record { fault = f; told = told; wrong = w.0 },
    )

pub request_taken : (r : Request) → IsOrdered (value_of r) → limit_fault r ≡ None
    → TellsOf (value_of r) (outline_of_request r) None
request_taken r h e = ap (λ b. told_of (cond b (requests r) (refused Limit))) (within_from_limits r h e) ∙ untold r

-- ---- values

pub value_unshaped : (d : Data) (f : Fault) (c : LineCause) → IsOrdered d → shape_fault d ≡ Some f → IsToldAs f c
    → TellsOf d (outline_of_asked (request_of d)) (Some c)
value_unshaped d f c h e told =
    let w = shape_wrong d h f e in
    let refusal : c.refusal ≡ Shape = told.refusal ∙ w.1 in (
      ap (λ o. told_of (outline_of_asked o)) (unread_from_fault d f (request_of d) e refl)
          ∙ ap Some (sym refusal),
      record { fault = f; told = told; wrong = w.0 },
    )

pub value_asked : (d : Data) (r : Request) (found : Option LineCause) → request_of d ≡ Some r
    → TellsOf (value_of r) (outline_of_request r) found → TellsOf d (outline_of_asked (request_of d)) found
value_asked d r found e told =
    subst (λ o. TellsOf d (outline_of_asked o) found) (sym e)
    (subst (λ v. TellsOf v (outline_of_request r) found) (sym (value_of-request_of d r e)) told)

pub ordered_request : (d : Data) (r : Request) → IsOrdered d → request_of d ≡ Some r → IsOrdered (value_of r)
ordered_request d r h e = subst IsOrdered (value_of-request_of d r e) h

pub limit_told : (r : Request) (fault : Option Fault) (found : Option LineCause) → fault ≡ limit_fault r
    → Tells fault found → Tells (limit_fault r) found
limit_told r fault found e told = subst (λ o. Tells o found) e told

pub shape_told : (d : Data) (f : Fault) (c : LineCause) → shape_fault d ≡ Some f → IsToldAs f c → TellsFirst d (Some c)
shape_told d f c e told = (Some f, subst (λ o. ComesFirst o d (Some f)) (sym e) refl, told)

pub asked_told : (d : Data) (r : Request) (found : Option LineCause) → shape_fault d ≡ None → request_of d ≡ Some r
    → Tells (limit_fault r) found → TellsFirst d found
asked_told d r found e is told =
    (limit_fault r, subst (λ o. ComesFirst o d (limit_fault r)) (sym e) (r, value_of-request_of d r is, refl), told)

-- a value with no fault is read
pub never_unread : (d : Data) → IsOrdered d → shape_fault d ≡ None → request_of d ≡ None → ⊥
never_unread d h e none = let w = read_from_shape d h e in none_is_some w.0 (sym none ∙ w.1)

-- what holds of the value of a result
pub if_ok : {A E : Type 0} (r : Result A E) (P Q : A → Type 0) → ((a : A) → P a → Q a) → IfOk r P → IfOk r Q
if_ok (Ok a) P Q f h = f a h
if_ok (Err e) P Q f h = h

-- ---- lines

true_is_false : (b : Bool) → b ≡ true → b ≡ false → ⊥
true_is_false b e is = cc

same_value : (d e : Data) → Some d ≡ Some e → d ≡ e
same_value d e is = cc

place_by : (l : List ℕ) (d : Data) (f : Fault) (w : Wrong) (p : Place) → json_of l ≡ Some d → HasPath f.0 p → w ≡ f.1
    → IsWrongAt f.0 f.1 d → IsPlaceOf l p w
place_by l d f w (Byte at) e has same is = absurd has
place_by l d f w (Member text) e has same is = (d, e, f.0, has, subst (λ v. IsWrongAt f.0 v d) (sym same) is)

cause_of_line : (l : List ℕ) (d : Data) (c : LineCause) → json_of l ≡ Some d → IsCauseIn d c → IsCauseOf l c
cause_of_line l d c e is = record {
  place = place_by l d is.fault c.wrong c.place e is.told.place is.told.wrong is.wrong;
  refusal = is.told.refusal ∙ ap refusal_of (sym is.told.wrong);
}

-- what a line says, where each value is one that may be asked for
abbrev values : Requests Data
values = record {
  value = λ d. d;
  read = λ d. Some d;
  within = λ d. true;
  finds = λ d. refl;
  only = λ d e same. same_value d e same;
}

all_said : (v : line.Line Data) → said_of values.read values.within v ≡ v
all_said line.blank = refl
all_said (line.refused r) = refl
all_said (line.asks d) = refl

abbrev SaysValue : List ℕ → line.Line Data → Type 0
SaysValue l v = SaysBy values.value values.within l v

says_value : (l : List ℕ) (v : line.Line Data) → line_value l ≡ v → SaysValue l v
says_value l v e = subst (SaysValue l) (all_said (line_value l) ∙ e) (says_found values l)

pub value_is : (l : List ℕ) (d : Data) → line_value l ≡ line.asks d → json_of l ≡ Some d
value_is l d e = (says_value l (line.asks d) e).1

pub none_is : (l : List ℕ) → line_value l ≡ line.refused Json → json_of l ≡ None
none_is l e = (says_value l (line.refused Json) e).1

outlined : (l : List ℕ) (v : line.Line Data) → line_value l ≡ v → outline l ≡ outline_of_line v
outlined l v e = outline_by_value l ∙ ap outline_of_line e

pub line_of_value : (l : List ℕ) (d : Data) (found : Option LineCause) → line_value l ≡ line.asks d
    → TellsOf d (outline_of_asked (request_of d)) found → TellsOfLine l found
line_of_value l d None e told = ap told_of (outlined l (line.asks d) e) ∙ told
line_of_value l d (Some c) e told =
    (ap told_of (outlined l (line.asks d) e) ∙ told.0, cause_of_line l d c (value_is l d e) told.1)

pub line_of_bytes : (l : List ℕ) (c : LineCause) → line_value l ≡ line.refused Json → IsCauseOf l c
    → c.refusal ≡ Json → TellsOfLine l (Some c)
line_of_bytes l c e is refusal = (ap told_of (outlined l (line.refused Json) e) ∙ ap Some (sym refusal), is)

pub line_blank : (l : List ℕ) → line_value l ≡ line.blank → TellsOfLine l None
line_blank l e = ap told_of (outlined l line.blank e)

-- a line that is refused for another reason than its bytes is too long
untold_refusal : (l : List ℕ) (r : Refusal) → SaysValue l (line.refused r) → ¬ (r ≡ Json)
    → told_of (refused r) ≡ None
untold_refusal l Long says other = refl
untold_refusal l Json says other = absurd (other refl)
untold_refusal l Shape says other = absurd (says.3 says.1 refl)
untold_refusal l Limit says other = absurd (true_is_false true refl says.3)
untold_refusal l Query says other = absurd says
untold_refusal l Listener says other = absurd says
untold_refusal l Full says other = absurd says

pub line_untold : (l : List ℕ) (r : Refusal) → line_value l ≡ line.refused r → ¬ (r ≡ Json) → TellsOfLine l None
line_untold l r e other =
    ap told_of (outlined l (line.refused r) e) ∙ untold_refusal l r (says_value l (line.refused r) e) other

-- ---- the first fault of a line

pub first_of_blank : (l : List ℕ) (found : Option LineCause) → line_value l ≡ line.blank → TellsFirstOf l found
first_of_blank l found e filled d is =
    absurd (true_is_false (is_blank l) (says_value l line.blank e).1 filled.some)

pub first_of_bytes : (l : List ℕ) (found : Option LineCause) → line_value l ≡ line.refused Json
    → TellsFirstOf l found
first_of_bytes l found e filled d is = absurd (none_is_some d (sym (none_is l e) ∙ is))

first_by : (l : List ℕ) (r : Refusal) (found : Option LineCause) → SaysValue l (line.refused r) → ¬ (r ≡ Json)
    → TellsFirstOf l found
first_by l Long found says other filled d is = absurd (true_is_false (is_long l) says filled.short)
first_by l Json found says other filled d is = absurd (other refl)
first_by l Shape found says other filled d is = absurd (says.3 says.1 refl)
first_by l Limit found says other filled d is = absurd (true_is_false true refl says.3)
first_by l Query found says other filled d is = absurd says
first_by l Listener found says other filled d is = absurd says
first_by l Full found says other filled d is = absurd says

pub first_untold : (l : List ℕ) (r : Refusal) (found : Option LineCause) → line_value l ≡ line.refused r
    → ¬ (r ≡ Json) → TellsFirstOf l found
first_untold l r found e other = first_by l r found (says_value l (line.refused r) e) other

pub first_of_value : (l : List ℕ) (d : Data) (found : Option LineCause) → line_value l ≡ line.asks d
    → TellsFirst d found → TellsFirstOf l found
first_of_value l d found e told filled other is =
    subst (λ v. TellsFirst v found) (same_value d other (sym (value_is l d e) ∙ is)) told

-- ---- what a line means

judged_untold : (b : Bool) (c : Command) → told_by (cond b (line.command c) (line.refusal Full)) ≡ None
judged_untold true c = refl
judged_untold false c = refl

pub outline_told : (names : List (List ℕ)) (h : History) (o : Outline) (m : Meaning) → MeansOutline names h o m
    → told_by m ≡ told_of o
outline_told names h blank m e = ap told_by e
outline_told names h (refused r) m e = ap told_by e
outline_told names h (registers listings) m (inl w) = ap told_by w.3
outline_told names h (registers listings) m (inr w) =
    ap told_by w.2 ∙ judged_untold (has_room h (Register w.0)) (Register w.0)
outline_told names h (deletes ids) m e = ap told_by e ∙ judged_untold (has_room h (Delete ids)) (Delete ids)
outline_told names h clears m e = ap told_by e ∙ judged_untold (has_room h Clear) Clear
outline_told names h purges m e = ap told_by e
outline_told names h counts m e = ap told_by e
outline_told names h (shows id) m e = ap told_by e
outline_told names h (matches articles) m e = ap told_by e

pub meaning_told : (names : List (List ℕ)) (h : History) (l : List ℕ) (m : Meaning) → Means names h l m
    → told_by m ≡ told_of (outline l)
meaning_told names h l m means = outline_told names h (outline l) m (means_to names h l m means)

pub refusal_told : (l : List ℕ) (found : Option LineCause) → TellsOfLine l found → option_map (λ c. c.refusal) found
    ≡ told_of (outline l)
refusal_told l None told = sym told
refusal_told l (Some c) told = sym told.0
