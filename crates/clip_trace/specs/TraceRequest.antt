-- What a line of a trace may ask for, and the JSON value by which it asks.
use Rattle.std.specs.Prelude.{ℕ, ◌&&◌, List, [], ◌∷◌, map, Bool, true, nat_le, nat_lt, codes, Option, Some, None}
use Rattle.serde_json.specs.Data.{Data, string}
use Rattle.clip_model.specs.declared.limits.TheConstants.{MOST_CALLERS}
use Rattle.clip_protocol.specs.Reply.{number_of}
use Rattle.clip_protocol.specs.Request as request
use Rattle.clip_protocol.specs.Request.{Listing, Draft, object_of, array_of, listing_value, draft_value, within}

-- commands, each with its caller, if it names one, and the other events
pub data TraceRequest : Type 0 where
  register : Option ℕ → List Listing → TraceRequest
  delete : Option ℕ → List (List ℕ) → TraceRequest
  clear : Option ℕ → TraceRequest
  begin : ℕ → TraceRequest
  install : ℕ → TraceRequest
  purge : TraceRequest
  look : ℕ → List Draft → TraceRequest
  piece : ℕ → TraceRequest
  finish : ℕ → TraceRequest

-- ---- the value that asks for it

-- the member for a caller, if one is named, before the others
abbrev pub with_caller : Option ℕ → List (List ℕ × Data) → List (List ℕ × Data)
with_caller None ms = ms
with_caller (Some caller) ms = (codes "caller", number_of caller) ∷ ms

abbrev pub trace_value : TraceRequest → Data
trace_value (register caller listings) =
    object_of (with_caller caller
    ((codes "op", string (codes "register")) ∷ (codes "queries", array_of (map listing_value listings)) ∷ []))
trace_value (delete caller ids) =
    object_of (with_caller caller
    ((codes "ids", array_of (map string ids)) ∷ (codes "op", string (codes "delete")) ∷ []))
trace_value (clear caller) = object_of (with_caller caller ((codes "op", string (codes "clear")) ∷ []))
trace_value (begin merge) = object_of ((codes "merge", number_of merge) ∷ (codes "op", string (codes "begin")) ∷ [])
trace_value (install merge) = object_of ((codes "merge", number_of merge) ∷ (codes "op", string (codes "install")) ∷ [])
trace_value purge = object_of ((codes "op", string (codes "purge")) ∷ [])
trace_value (look batch drafts) =
    object_of ((codes "articles", array_of (map draft_value drafts)) ∷ (codes "batch", number_of batch)
    ∷ (codes "op", string (codes "look")) ∷ [])
trace_value (piece batch) = object_of ((codes "batch", number_of batch) ∷ (codes "op", string (codes "piece")) ∷ [])
trace_value (finish batch) = object_of ((codes "batch", number_of batch) ∷ (codes "op", string (codes "finish")) ∷ [])

-- ---- limits

-- caller 1 where none is named
abbrev pub caller_of : Option ℕ → ℕ
caller_of None = 1
caller_of (Some caller) = caller

abbrev pub is_caller : ℕ → Bool
is_caller caller = nat_lt 0 caller && nat_le caller MOST_CALLERS

-- a caller in its range, and lists within the limits of the requests of a run
abbrev pub trace_within : TraceRequest → Bool
trace_within (register caller listings) = is_caller (caller_of caller) && within (request.register listings)
trace_within (delete caller ids) = is_caller (caller_of caller) && within (request.delete ids)
trace_within (clear caller) = is_caller (caller_of caller)
trace_within (begin merge) = true
trace_within (install merge) = true
trace_within purge = true
trace_within (look batch drafts) = within (request.match drafts)
trace_within (piece batch) = true
trace_within (finish batch) = true
