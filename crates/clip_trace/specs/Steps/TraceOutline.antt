-- What a line of a trace says, found step by step, and how it is answered: the stepping stones to the whole input.
use Rattle.std.specs.Prelude.{[], ◌∷◌, ◌≡◌, ℕ, List, map, ◌++◌, Option, Some, None, option_map}
use Rattle.std.specs.Prelude.{option_and_then, codes, Result, Ok, Err, ⊤}
use Rattle.std.specs.Arc.{arc_value}
use Rattle.std.specs.declared.alloc.Global.{Global}
use Rattle.std.specs.declared.sync.Arc.{Arc}
use Rattle.std.specs.declared.vec.Vec.{Vec}
use Rattle.serde_json.specs.Data.{Data, object, Members}
use Rattle.serde_json.specs.Find.{get, as_number, as_u64, as_array, as_object}
use Rattle.clip_model.specs.Standing.{Standing}
use Rattle.clip_trace.specs.Event.{event_of}
use Rattle.clip_trace.specs.Schedule.{Step, Stand, IsDue, stand}
use Rattle.clip_protocol.specs.declared.listing.ListFault.{ListFault}
use Rattle.clip_protocol.specs.declared.listing.ListFault.TheVariants as fault
use Rattle.clip_protocol.specs.declared.refusal.Refusal.TheVariants as refusal
use Rattle.clip_protocol.specs.declared.refusal.Unread.{Unread}
use Rattle.clip_protocol.specs.declared.refusal.Unread.TheVariants as unread
use Rattle.clip_trace.specs.declared.trace_line.TraceLine.{TraceLine}
use Rattle.clip_trace.specs.declared.trace_line.TraceLine.TheVariants as line
use Rattle.clip_trace.specs.declared.trace_operation.TraceOperation.{TraceOperation}
use Rattle.clip_trace.specs.declared.trace_operation.TraceOperation.TheVariants as operation
use Rattle.clip_protocol.specs.LineMeaning.{Line, refused}
use Rattle.clip_protocol.specs.Reply.{Reply, reply_text}
use Rattle.clip_protocol.specs.Request as run
use Rattle.clip_protocol.specs.Request.{Listing, Request}
use Rattle.clip_trace.specs.TraceLine as said
use Rattle.clip_trace.specs.TraceLine.{Said, SaysLine, AreReadAs, FirstUnread}
use Rattle.clip_trace.specs.TraceOutcome.{Replies}
use Rattle.clip_trace.specs.TraceRequest as request
use Rattle.clip_trace.specs.TraceRequest.{TraceRequest, trace_within}
use Rattle.clip_protocol.specs.Steps.Outline.{take_member, two_members, three_members, all_of, draft_of, request_of}
use Rattle.clip_protocol.specs.Steps.Outline.{asked_in}
use Rattle.clip_protocol.specs.Steps.Saying.{line_value, request_said, said_of}
use Rattle.clip_front.specs.Steps.Serving.{Answering, Breaking}

-- ---- requests

-- the number that a value is, from 0 to 2 ^ 64 - 1
abbrev pub number_in : Data → Option ℕ
number_in d = option_and_then as_u64 (as_number d)

abbrev pub with_number : Data × Members → Option (ℕ × Data)
with_number p = option_map (λ caller. (caller, object p.1)) (number_in p.0)

-- the caller that the first member of an object names, and the object of the other members
abbrev pub take_caller : Data → Option (ℕ × Data)
take_caller d = option_and_then with_number (option_and_then (take_member (codes "caller")) (as_object d))

abbrev pub split_by : Data → Option Data → Option (Option ℕ × Data)
split_by d None = Some (None, d)
split_by d (Some named) = option_map (λ p. (Some p.0, p.1)) (take_caller d)

-- the caller that an object names, if it names one, and the object of its other members
abbrev pub split_caller : Data → Option (Option ℕ × Data)
split_caller d = split_by d (get (codes "caller") d)

-- a request of a run, by this caller: a command, or a purge, which has no caller
abbrev pub by_caller : Option ℕ → Request → Option TraceRequest
by_caller caller (run.register listings) = Some (request.register caller listings)
by_caller caller (run.delete ids) = Some (request.delete caller ids)
by_caller caller run.clear = Some (request.clear caller)
by_caller None run.purge = Some request.purge
by_caller (Some caller) run.purge = None
by_caller caller run.count = None
by_caller caller (run.show id) = None
by_caller caller (run.match drafts) = None

abbrev pub command_by : Option ℕ × Data → Option TraceRequest
command_by p = option_and_then (by_caller p.0) (request_of p.1)

-- the request of a run that an object asks for, behind its caller
unfoldable pub command_of : Data → Option TraceRequest
command_of d = option_and_then command_by (split_caller d)

abbrev pub look_by : Data × (Data × Data) → Option TraceRequest
look_by p = option_and_then (λ batch. option_map (request.look batch)
    (option_and_then (all_of draft_of) (as_array p.0))) (number_in p.1.0)

unfoldable pub look_of : Data → Option TraceRequest
look_of d = option_and_then look_by (three_members (codes "articles") (codes "batch") (codes "op") d)

-- the number under this name, beside the operation alone
unfoldable pub number_under : List ℕ → Data → Option ℕ
number_under name d = option_and_then (λ p. number_in p.0) (two_members name (codes "op") d)

abbrev pub operations : List (List ℕ × TraceOperation)
operations = (codes "begin", operation.Begin) ∷ (codes "install", operation.Install) ∷ (codes "look", operation.Look)
    ∷ (codes "piece", operation.Piece) ∷ (codes "finish", operation.Finish) ∷ []

-- the operation of a trace alone that an object asks for
unfoldable pub operation_in : Data → Option TraceOperation
operation_in d = asked_in operations d

abbrev pub request_by : Data → Option TraceOperation → Option TraceRequest
request_by d None = command_of d
request_by d (Some operation.Begin) = option_map request.begin (number_under (codes "merge") d)
request_by d (Some operation.Install) = option_map request.install (number_under (codes "merge") d)
request_by d (Some operation.Look) = look_of d
request_by d (Some operation.Piece) = option_map request.piece (number_under (codes "batch") d)
request_by d (Some operation.Finish) = option_map request.finish (number_under (codes "batch") d)

-- the request of a trace that has this value, if one has
unfoldable pub trace_request_of : Data → Option TraceRequest
trace_request_of d = request_by d (operation_in d)

-- ---- lines

abbrev pub limited : TraceRequest → Line TraceRequest
limited r = request_said trace_within (Some r)

-- what a line says
abbrev pub trace_line : List ℕ → Line TraceRequest
trace_line bytes = said_of trace_request_of trace_within (line_value bytes)

-- what contracts see of a line
abbrev pub said_view : TraceLine → Said
said_view line.Blank = said.nothing
said_view (line.Refused reason) = said.refusal reason
said_view (line.RefusedAt reason place) = said.refusal_at reason place
said_view (line.Event event) = said.plays (event_of event)

-- What was read is what the line says, or this is its refusal.
abbrev pub ReadsTrace : Line TraceRequest → Result TraceLine Unread → Type 0
ReadsTrace l (Ok read) = SaysLine l (said_view read)
ReadsTrace l (Err (unread.Refused r)) = l ≡ refused r
ReadsTrace l (Err unread.NoMemory) = ⊤

-- The queries are read as these standing ones, or the text of the one at this place is the first that is no query.
abbrev pub ReadsList : List Listing → Result (Vec (Arc Standing Global) Global) ListFault → Type 0
ReadsList listings (Ok all) = AreReadAs listings (map arc_value all.items)
ReadsList listings (Err (fault.Refused r k)) = (r ≡ refusal.Query) × FirstUnread listings k
ReadsList listings (Err fault.NoMemory) = ⊤

-- ---- answers

-- Steps after which things stand so: where those before it are due, all are due.
abbrev pub Plays : Stand → Stand → List Step → Type 0
Plays old new steps = (before : List Step) → IsDue before → stand before ≡ old
    → IsDue (before ++ steps) × (stand (before ++ steps) ≡ new)

-- a line that says this is answered by its steps
pub record Responds (old new : Stand) (s : Said) (r : Reply) : Type 0 where
  pub steps : List Step
  pub replies : Replies s steps r
  pub played : Plays old new steps

-- the bytes are those of the reply to line n
pub record AnswersTraced (old new : Stand) (n : ℕ) (line bytes : List ℕ) : Type 0 where
  pub said : Said
  pub says : SaysLine (trace_line line) said
  pub answered : Reply
  pub responds : Responds old new said answered
  pub printed : bytes ≡ reply_text n answered

-- the answering of each line by a tracer
abbrev pub AnswersIn : {S : Type 0} → (S → Stand) → Answering S
AnswersIn view s t n line text = AnswersTraced (view s) (view t) n line text

-- of an answering that was broken off nothing was on its way
abbrev pub BreaksIn : {S : Type 0} → Breaking S
BreaksIn s t n line text = text ≡ []
