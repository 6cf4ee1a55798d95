-- A value is read as a request of a trace exactly where it is the value of it.
use Rattle.std.proofs.Common.{◌≡◌, ℕ, List, [], ◌∷◌, map, Option, Some, None, option_map, option_and_then, refl, ap}
use Rattle.std.proofs.Common.{ap₂, ◌∙◌}
use Rattle.std.specs.Prelude.{codes}
use Rattle.serde_json.specs.Data.{unsigned, negative, float, Data, null, boolean, number, string, array, object}
use Rattle.serde_json.specs.Data.{member}
use Rattle.serde_json.specs.Find.{get, as_array, as_object}
use Rattle.clip_protocol.specs.Reply.{number_of}
use Rattle.clip_protocol.specs.Request as run
use Rattle.clip_protocol.specs.Request.{Listing, Request, object_of, array_of, draft_value, value_of}
use Rattle.clip_trace.specs.TraceRequest.{TraceRequest, register, delete, clear, begin, install, purge, look}
use Rattle.clip_trace.specs.TraceRequest.{piece, finish, trace_value}
use Rattle.clip_protocol.specs.Steps.Outline.{take_member, two_members, three_members, all_of, draft_of, request_of}
use Rattle.clip_trace.specs.Steps.TraceOutline.{number_in, with_number, take_caller, split_by, split_caller}
use Rattle.clip_trace.specs.Steps.TraceOutline.{by_caller, command_by, command_of, look_by, look_of, number_under}
use Rattle.clip_trace.specs.Steps.TraceOutline.{operations, operation_in, request_by, trace_request_of}
use Rattle.clip_trace.specs.declared.trace_operation.TraceOperation.{TraceOperation}
use Rattle.clip_trace.specs.declared.trace_operation.TraceOperation.TheVariants as operation
use Rattle.clip_protocol.proofs.RequestLaw.{all_of-map, draft_of-value, none_is_some, led, mapped, array_is, object_is}
use Rattle.clip_protocol.proofs.RequestLaw.{taken_is, two_are, three_are, all_are, draft_is, AreNamed, name_text}
use Rattle.clip_protocol.proofs.RequestLaw.{request_of-value_of, value_of-request_of}

-- ---- the value of a request is read as it

register_found : (caller : Option ℕ) (listings : List Listing)
    → trace_request_of (trace_value (register caller listings)) ≡ Some (register caller listings)
unfolding trace_request_of operation_in command_of
register_found None listings = ap (option_and_then (by_caller None)) (request_of-value_of (run.register listings))
register_found (Some n) listings =
    ap (option_and_then (by_caller (Some n))) (request_of-value_of (run.register listings))

delete_found : (caller : Option ℕ) (ids : List (List ℕ)) → trace_request_of (trace_value (delete caller ids))
    ≡ Some (delete caller ids)
unfolding trace_request_of operation_in command_of
delete_found None ids = ap (option_and_then (by_caller None)) (request_of-value_of (run.delete ids))
delete_found (Some n) ids = ap (option_and_then (by_caller (Some n))) (request_of-value_of (run.delete ids))

clear_found : (caller : Option ℕ) → trace_request_of (trace_value (clear caller)) ≡ Some (clear caller)
unfolding trace_request_of operation_in command_of
clear_found None = ap (option_and_then (by_caller None)) (request_of-value_of run.clear)
clear_found (Some n) = ap (option_and_then (by_caller (Some n))) (request_of-value_of run.clear)

pub trace_request_of-trace_value : (r : TraceRequest) → trace_request_of (trace_value r) ≡ Some r
unfolding trace_request_of operation_in command_of look_of number_under
trace_request_of-trace_value (register caller listings) = register_found caller listings
trace_request_of-trace_value (delete caller ids) = delete_found caller ids
trace_request_of-trace_value (clear caller) = clear_found caller
trace_request_of-trace_value (begin merge) = refl
trace_request_of-trace_value (install merge) = refl
trace_request_of-trace_value purge = ap (option_and_then (by_caller None)) (request_of-value_of run.purge)
trace_request_of-trace_value (look batch drafts) =
    ap (option_map (look batch)) (all_of-map draft_value draft_of draft_of-value drafts)
trace_request_of-trace_value (piece batch) = refl
trace_request_of-trace_value (finish batch) = refl

-- ---- what is read as a request is its value

number_is : (d : Data) (n : ℕ) → number_in d ≡ Some n → d ≡ number_of n
number_is null n e = absurd (none_is_some n e)
number_is (boolean b) n e = absurd (none_is_some n e)
number_is (number (unsigned k)) n e = let same : k ≡ n = cc in ap number_of same
number_is (number (negative z)) n e = absurd (none_is_some n e)
number_is (number (float x)) n e = absurd (none_is_some n e)
number_is (string t) n e = absurd (none_is_some n e)
number_is (array ds) n e = absurd (none_is_some n e)
number_is (object ms) n e = absurd (none_is_some n e)

-- an object with the member of a caller before the others
abbrev called : Option ℕ → Data → Data
called None d = d
called (Some caller) d = elim (as_object d)
    [ None ↦ d | Some ms ↦ object (member (codes "caller") (number_of caller) ms) ]

taken_caller : (d : Data) (p : ℕ × Data) → take_caller d ≡ Some p → d ≡ called (Some p.0) p.1
taken_caller d p e =
    let first = led (option_and_then (take_member (codes "caller")) (as_object d)) with_number p e in
    let members = led (as_object d) (take_member (codes "caller")) first.0 first.1 in
    let caller = mapped (number_in first.0.0) _ p first.2 in
    object_is d members.0 members.1 ∙ ap object (taken_is (codes "caller") members.0 first.0 members.2)
    ∙ ap (λ x. object (member (codes "caller") x first.0.1)) (number_is first.0.0 caller.0 caller.1)
    ∙ ap (λ q. called (Some q.0) q.1) caller.2

split_from : (d : Data) (o : Option Data) (p : Option ℕ × Data) → split_by d o ≡ Some p → d ≡ called p.0 p.1
split_from d None p e = let same : (None, d) ≡ p = cc in ap (λ q. called q.0 q.1) same
split_from d (Some x) p e =
    let taken = mapped (take_caller d) _ p e in
    taken_caller d taken.0 taken.1 ∙ ap (λ q. called q.0 q.1) taken.2

same_value : (r t : TraceRequest) → Some r ≡ Some t → trace_value r ≡ trace_value t
same_value r t e = let same : r ≡ t = cc in ap trace_value same

by_caller_is : (caller : Option ℕ) (r : Request) (t : TraceRequest) → by_caller caller r ≡ Some t
    → called caller (value_of r) ≡ trace_value t
by_caller_is None (run.register listings) t e = same_value (register None listings) t e
by_caller_is (Some n) (run.register listings) t e = same_value (register (Some n) listings) t e
by_caller_is None (run.delete ids) t e = same_value (delete None ids) t e
by_caller_is (Some n) (run.delete ids) t e = same_value (delete (Some n) ids) t e
by_caller_is None run.clear t e = same_value (clear None) t e
by_caller_is (Some n) run.clear t e = same_value (clear (Some n)) t e
by_caller_is None run.purge t e = same_value purge t e
by_caller_is (Some n) run.purge t e = absurd (none_is_some t e)
by_caller_is caller run.count t e = absurd (none_is_some t e)
by_caller_is caller (run.show id) t e = absurd (none_is_some t e)
by_caller_is caller (run.match drafts) t e = absurd (none_is_some t e)

command_is : (d : Data) (t : TraceRequest) → command_of d ≡ Some t → d ≡ trace_value t
unfolding command_of
command_is d t e =
    let split = led (split_caller d) command_by t e in
    let request = led (request_of split.0.1) (by_caller split.0.0) t split.2 in
    split_from d (get (codes "caller") d) split.0 split.1
    ∙ ap (called split.0.0) (value_of-request_of split.0.1 request.0 request.1)
    ∙ by_caller_is split.0.0 request.0 t request.2

-- ---- operations

name_of : TraceOperation → List ℕ
name_of operation.Begin = codes "begin"
name_of operation.Install = codes "install"
name_of operation.Look = codes "look"
name_of operation.Piece = codes "piece"
name_of operation.Finish = codes "finish"

are_named : AreNamed name_of operations
unfolding name_of
are_named = (refl, (refl, (refl, (refl, (refl, tt)))))

told : (d x : Data) (o : TraceOperation) → get (codes "op") d ≡ Some x → operation_in d ≡ Some o
    → x ≡ string (name_of o)
unfolding operation_in
told d x o found e = name_text name_of operations are_named d x o found e

-- an object of a number under this name and the operation
numbered_is : (name : List ℕ) (d : Data) (n : ℕ) (o : TraceOperation)
    → ((x y : Data) → get (codes "op") (object_of ((name, x) ∷ (codes "op", y) ∷ [])) ≡ Some y)
    → operation_in d ≡ Some o → number_under name d ≡ Some n
    → d ≡ object_of ((name, number_of n) ∷ (codes "op", string (name_of o)) ∷ [])
unfolding number_under
numbered_is name d n o there op e =
    let p = led (two_members name (codes "op") d) _ n e in
    let shape = two_are name (codes "op") d p.0 p.1 in
    let word = told d p.0.1 o (ap (get (codes "op")) shape ∙ there p.0.0 p.0.1) op in
    shape ∙ ap₂ (λ x y. object_of ((name, x) ∷ (codes "op", y) ∷ [])) (number_is p.0.0 n p.2) word

look_is : (d : Data) (r : TraceRequest) → operation_in d ≡ Some operation.Look → look_of d ≡ Some r → d ≡ trace_value r
unfolding look_of name_of
look_is d r op e =
    let p = led (three_members (codes "articles") (codes "batch") (codes "op") d) look_by r e in
    let batch = led (number_in p.0.1.0) _ r p.2 in
    let all = mapped _ (look batch.0) r batch.2 in
    let items = led (as_array p.0.0) (all_of draft_of) all.0 all.1 in
    let shape = three_are (codes "articles") (codes "batch") (codes "op") d p.0 p.1 in
    let word = told d p.0.1.1 operation.Look (ap (get (codes "op")) shape) op in
    shape
    ∙ ap₂ (λ x y. object_of ((codes "articles", x) ∷ (codes "batch", y) ∷ (codes "op", p.0.1.1) ∷ []))
    (array_is p.0.0 items.0 items.1 ∙ ap array (all_are draft_value draft_of draft_is items.0 all.0 items.2))
    (number_is p.0.1.0 batch.0 batch.1)
    ∙ ap (λ z. object_of ((codes "articles", array_of (map draft_value all.0)) ∷ (codes "batch", number_of batch.0)
    ∷ (codes "op", z) ∷ [])) word ∙ ap trace_value all.2

request_is : (d : Data) (o : Option TraceOperation) (r : TraceRequest) → operation_in d ≡ o → request_by d o ≡ Some r
    → d ≡ trace_value r
unfolding name_of
request_is d None r op e = command_is d r e
request_is d (Some operation.Begin) r op e = let n = mapped (number_under (codes "merge") d) begin r e in
    numbered_is (codes "merge") d n.0 operation.Begin (λ x y. refl) op n.1 ∙ ap trace_value n.2
request_is d (Some operation.Install) r op e = let n = mapped (number_under (codes "merge") d) install r e in
    numbered_is (codes "merge") d n.0 operation.Install (λ x y. refl) op n.1 ∙ ap trace_value n.2
request_is d (Some operation.Look) r op e = look_is d r op e
request_is d (Some operation.Piece) r op e = let n = mapped (number_under (codes "batch") d) piece r e in
    numbered_is (codes "batch") d n.0 operation.Piece (λ x y. refl) op n.1 ∙ ap trace_value n.2
request_is d (Some operation.Finish) r op e = let n = mapped (number_under (codes "batch") d) finish r e in
    numbered_is (codes "batch") d n.0 operation.Finish (λ x y. refl) op n.1 ∙ ap trace_value n.2

pub trace_value-trace_request_of : (d : Data) (r : TraceRequest) → trace_request_of d ≡ Some r → d ≡ trace_value r
unfolding trace_request_of
trace_value-trace_request_of d r e = request_is d (operation_in d) r refl e
