-- What a line of a trace says.
use Rattle.std.specs.Prelude.{◌≡◌, ◌⊎◌, ℕ, zero, suc, List, [], ◌∷◌, map, ⊤}
use Rattle.clip_grammar.specs.Tree.{Tree}
use Rattle.clip_model.specs.Standing.{Standing}
use Rattle.clip_model.specs.History.{Register, Delete, Clear}
use Rattle.clip_trace.specs.Event as event
use Rattle.clip_trace.specs.Event.{Event}
use Rattle.clip_protocol.specs.declared.refusal.Refusal.{Refusal}
use Rattle.clip_protocol.specs.declared.refusal.Refusal.TheVariants as reason
use Rattle.clip_protocol.specs.LineMeaning as line
use Rattle.clip_protocol.specs.LineMeaning.{Line, SaysBy, IsQuery, IsAQuery, IsReadAs, article_of}
use Rattle.clip_protocol.specs.Request.{Listing}
use Rattle.clip_trace.specs.TraceRequest as request
use Rattle.clip_trace.specs.TraceRequest.{TraceRequest, trace_value, trace_within, caller_of}

-- nothing, a refusal, a refusal for the query at a place, or an event
pub data Said : Type 0 where
  nothing : Said
  refusal : Refusal → Said
  refusal_at : Refusal → ℕ → Said
  plays : Event → Said

-- ---- the queries of a register, with any listeners

-- each listed query is this standing one, in order
abbrev pub AreReadAs : List Listing → List Standing → Type 0
AreReadAs [] [] = ⊤
AreReadAs (l ∷ ls) (s ∷ ss) = IsReadAs l s × AreReadAs ls ss
AreReadAs [] (s ∷ ss) = ⊥
AreReadAs (l ∷ ls) [] = ⊥

-- the text of the query at this place is no query, and each before it is one
abbrev pub FirstUnread : List Listing → ℕ → Type 0
FirstUnread [] k = ⊥
FirstUnread (l ∷ ls) zero = (tree : Tree) → ¬ (IsQuery l.query tree)
FirstUnread (l ∷ ls) (suc k) = IsAQuery l.query × FirstUnread ls k

-- ---- a line

-- what a request says
abbrev pub SaysRequest : TraceRequest → Said → Type 0
SaysRequest (request.register caller listings) said =
    ((k : ℕ) × FirstUnread listings k × (said ≡ refusal_at reason.Query k))
    ⊎ ((ss : List Standing) × AreReadAs listings ss × (said ≡ plays (event.Accept (caller_of caller) (Register ss))))
SaysRequest (request.delete caller ids) said = said ≡ plays (event.Accept (caller_of caller) (Delete ids))
SaysRequest (request.clear caller) said = said ≡ plays (event.Accept (caller_of caller) Clear)
SaysRequest (request.begin merge) said = said ≡ plays (event.Begin merge)
SaysRequest (request.install merge) said = said ≡ plays (event.Install merge)
SaysRequest request.purge said = said ≡ plays event.Purge
SaysRequest (request.look batch drafts) said = said ≡ plays (event.Look batch (map article_of drafts))
SaysRequest (request.piece batch) said = said ≡ plays (event.Piece batch)
SaysRequest (request.finish batch) said = said ≡ plays (event.Finish batch)

abbrev pub SaysLine : Line TraceRequest → Said → Type 0
SaysLine line.blank said = said ≡ nothing
SaysLine (line.refused r) said = said ≡ refusal r
SaysLine (line.asks r) said = SaysRequest r said

-- the line of a trace says this
pub record SaysTrace (bytes : List ℕ) (said : Said) : Type 0 where
  pub line : Line TraceRequest
  pub is : SaysBy trace_value trace_within bytes line
  pub says : SaysLine line said
