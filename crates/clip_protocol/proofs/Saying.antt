-- What a line says, by its value: for requests of any kind whose reading finds just what has their value.
use Rattle.std.proofs.Common.{◌≡◌, ℕ, List, Bool, true, false, cond, Option, Some, None, refl, sym, ap, ◌∙◌}
use Rattle.serde_json.specs.Data.{Data}
use Rattle.clip_protocol.specs.LineMeaning.{Line, blank, refused, asks, SaysBy, IsFilled, is_long, is_blank, json_of}
use Rattle.clip_protocol.specs.Request.{Request, value_of, within}
use Rattle.clip_protocol.specs.Steps.Outline as outline
use Rattle.clip_protocol.specs.Steps.Outline.{requests, outline_said, outline_of_asked, outline_of_value}
use Rattle.clip_protocol.specs.Steps.Outline.{outline_of_line, request_of}
use Rattle.clip_protocol.specs.Steps.Saying.{value_said, line_value, request_said, said_of}
use Rattle.clip_protocol.specs.declared.refusal.Refusal.TheVariants.{Long, Json, Shape, Limit, Query, Listener, Full}
use Rattle.clip_protocol.proofs.RequestLaw.{none_is_some, request_of-value_of, value_of-request_of}

-- requests of a kind: the value of each, a reading that finds each by its value and nothing else, and their limits
pub record Requests (R : Type 0) : Type 0 where
  pub value : R → Data
  pub read : Data → Option R
  pub within : R → Bool
  pub finds : (r : R) → read (value r) ≡ Some r
  pub only : (d : Data) (r : R) → read d ≡ Some r → d ≡ value r

-- what a line says by them
abbrev pub said_by : {R : Type 0} → Requests R → List ℕ → Line R
said_by k line = said_of k.read k.within (line_value line)

-- ---- the line says what is found

limited : {R : Type 0} (k : Requests R) (line : List ℕ) (r : R) (b : Bool) → IsFilled line
    → json_of line ≡ Some (k.value r) → k.within r ≡ b
    → SaysBy k.value k.within line (cond b (asks r) (refused Limit))
limited k line r true filled is e = (filled, is, e)
limited k line r false filled is e = (filled, r, is, e)

asked : {R : Type 0} (k : Requests R) (line : List ℕ) (d : Data) (o : Option R) → IsFilled line
    → json_of line ≡ Some d → k.read d ≡ o → SaysBy k.value k.within line (request_said k.within o)
asked k line d None filled is e = (filled, d, is, λ r same. none_is_some r (sym e ∙ ap k.read same ∙ k.finds r))
asked k line d (Some r) filled is e = limited k line r (k.within r) filled (is ∙ ap Some (k.only d r e)) refl

found : {R : Type 0} (k : Requests R) (line : List ℕ) (long empty : Bool) (o : Option Data) → is_long line ≡ long
    → is_blank line ≡ empty → json_of line ≡ o
    → SaysBy k.value k.within line
    (said_of k.read k.within (cond long (refused Long) (cond empty blank (value_said o))))
found k line true empty o l e is = l
found k line false true o l e is = (l, e)
found k line false false None l e is = (record { short = l; some = e }, is)
found k line false false (Some d) l e is = asked k line d (k.read d) (record { short = l; some = e }) is refl

pub says_found : {R : Type 0} (k : Requests R) (line : List ℕ) → SaysBy k.value k.within line (said_by k line)
unfolding line_value
says_found k line = found k line (is_long line) (is_blank line) (json_of line) refl refl refl

-- ---- and says nothing else

valued : (line : List ℕ) (long empty : Bool) (o : Option Data) → is_long line ≡ long → is_blank line ≡ empty
    → json_of line ≡ o → line_value line ≡ cond long (refused Long) (cond empty blank (value_said o))
unfolding line_value
valued line long empty o l e is = rw (l, e, is) refl

by_value : {R : Type 0} (k : Requests R) (line : List ℕ) (d : Data) → IsFilled line → json_of line ≡ Some d
    → said_by k line ≡ request_said k.within (k.read d)
by_value k line d f is = ap (said_of k.read k.within) (valued line false false (Some d) f.short f.some is)

by_request : {R : Type 0} (k : Requests R) (line : List ℕ) (r : R) → IsFilled line → json_of line ≡ Some (k.value r)
    → said_by k line ≡ cond (k.within r) (asks r) (refused Limit)
by_request k line r f is = by_value k line (k.value r) f is ∙ ap (request_said k.within) (k.finds r)

shapeless : {R : Type 0} (k : Requests R) (d : Data) (o : Option R) → k.read d ≡ o → ((r : R) → ¬ (d ≡ k.value r))
    → request_said k.within o ≡ refused Shape
shapeless k d None e none = refl
shapeless k d (Some r) e none = absurd (none r (k.only d r e))

pub found_says : {R : Type 0} (k : Requests R) (line : List ℕ) (l : Line R) → SaysBy k.value k.within line l
    → said_by k line ≡ l
found_says k line blank says =
    ap (said_of k.read k.within) (valued line false true (json_of line) says.0 says.1 refl)
found_says k line (refused Long) says =
    ap (said_of k.read k.within) (valued line true (is_blank line) (json_of line) says refl refl)
found_says k line (refused Json) says =
    ap (said_of k.read k.within) (valued line false false None says.0.short says.0.some says.1)
found_says k line (refused Shape) says = by_value k line says.1 says.0 says.2
    ∙ shapeless k says.1 (k.read says.1) refl says.3
found_says k line (refused Limit) says = by_request k line says.1 says.0 says.2
    ∙ ap (λ b. cond b (asks says.1) (refused Limit)) says.3
found_says k line (refused Query) says = absurd says
found_says k line (refused Listener) says = absurd says
found_says k line (refused Full) says = absurd says
found_says k line (asks r) says = by_request k line r says.0 says.1 ∙ ap (λ b. cond b (asks r) (refused Limit)) says.2

-- ---- requests of a run, and the outlines of their lines

abbrev pub run : Requests Request
run = record {
  value = value_of;
  read = request_of;
  within = within;
  finds = request_of-value_of;
  only = value_of-request_of;
}

outlined : (long empty : Bool) (o : Option Data)
    → cond long (outline.refused Long) (cond empty outline.blank (outline_of_value o))
    ≡ outline_of_line (cond long (refused Long) (cond empty blank (value_said o)))
outlined true empty o = refl
outlined false true o = refl
outlined false false None = refl
outlined false false (Some d) = refl

-- the outline of a line is that of its value
pub outline_by_value : (line : List ℕ) → outline.outline line ≡ outline_of_line (line_value line)
unfolding outline.outline line_value
outline_by_value line = outlined (is_long line) (is_blank line) (json_of line)

outlined_request : (r : Request) (b : Bool) → cond b (requests r) (outline.refused Limit)
    ≡ outline_said (cond b (asks r) (refused Limit))
outlined_request r true = refl
outlined_request r false = refl

outlined_asked : (o : Option Request) → outline_of_asked o ≡ outline_said (request_said within o)
outlined_asked None = refl
outlined_asked (Some r) = outlined_request r (within r)

outlined_line : (l : Line Data) → outline_of_line l ≡ outline_said (said_of request_of within l)
outlined_line blank = refl
outlined_line (refused r) = refl
outlined_line (asks d) = outlined_asked (request_of d)

-- and that of what it says
pub outline_is_said : (line : List ℕ) → outline.outline line ≡ outline_said (said_by run line)
outline_is_said line = outline_by_value line ∙ outlined_line (line_value line)

pub outline_says : (line : List ℕ) (l : Line Request) → SaysBy value_of within line l
    → outline.outline line ≡ outline_said l
outline_says line l says = outline_is_said line ∙ ap outline_said (found_says run line l says)
