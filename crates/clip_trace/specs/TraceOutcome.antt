-- What the lines of a trace give: events with the answers that are due, and the replies.
use Rattle.std.specs.Prelude.{◌≡◌, ℕ, suc, List, [], ◌∷◌, ◌++◌, length, map, codes, Option}
use Rattle.std.specs.Io.KnownBytes.{Appends}
use Rattle.clip_model.specs.Alerts.{Alert}
use Rattle.clip_standing.specs.declared.command.Applied.TheVariants as applied
use Rattle.clip_stream.specs.Device.{AppendsFront}
use Rattle.clip_stream.specs.Lines.{lines_of}
use Rattle.clip_trace.specs.Event as answer
use Rattle.clip_trace.specs.Event.{Answer, Found}
use Rattle.clip_trace.specs.Schedule.{Step, IsDue}
use Rattle.clip_protocol.specs.declared.refusal.Refusal.TheVariants as reason
use Rattle.clip_protocol.specs.Reply as reply
use Rattle.clip_protocol.specs.Reply.{Reply, reply_text}
use Rattle.clip_trace.specs.TraceLine.{Said, nothing, refusal, refusal_at, plays, SaysTrace}

-- ---- replies

-- the article's id, and its alerts
abbrev pub found_shown : Found → List ℕ × List Alert
found_shown f = (f.article, f.alerts)

-- the reply that reports an answer
abbrev pub reply_to : Answer → Reply
reply_to answer.Unknown = reply.stepped (codes "unknown")
reply_to answer.Used = reply.stepped (codes "used")
reply_to answer.TooMany = reply.stepped (codes "toomany")
reply_to answer.Full = reply.refused reason.Full
reply_to (answer.Accepted (applied.Registered k)) = reply.registered k
reply_to (answer.Accepted (applied.Deleted k)) = reply.deleted k
reply_to (answer.Accepted (applied.Cleared k)) = reply.cleared k
reply_to answer.Begun = reply.stepped (codes "begun")
reply_to answer.Nothing = reply.stepped (codes "nothing")
reply_to answer.Installed = reply.stepped (codes "installed")
reply_to answer.Stale = reply.stepped (codes "stale")
reply_to answer.Purged = reply.stepped (codes "purged")
reply_to answer.Looked = reply.stepped (codes "looked")
reply_to answer.Matched = reply.stepped (codes "matched")
reply_to (answer.Finished found) = reply.finished (map found_shown found)

-- A line that says this plays its event with some answer, or nothing, and this is the reply.
abbrev pub Replies : Said → List Step → Reply → Type 0
Replies nothing steps r = (steps ≡ []) × (r ≡ reply.nothing)
Replies (refusal why) steps r = (steps ≡ []) × (r ≡ reply.refused why)
Replies (refusal_at why k) steps r = (steps ≡ []) × (r ≡ reply.refused_at why k)
Replies (plays event) steps r = (a : Answer) × (steps ≡ (event, a) ∷ []) × (r ≡ reply_to a)

-- ---- whole traces

-- the lines, of which the first is line n, play these events with these answers, and are replied by this text
abbrev pub Traces : ℕ → List (List ℕ) → List Step → List ℕ → Type 0
Traces n [] steps text = (steps ≡ []) × (text ≡ [])
Traces n (line ∷ lines) steps text =
    (said : Said) × (now : List Step) × (r : Reply) × (later : List Step) × (rest : List ℕ) × SaysTrace line said
    × Replies said now r × (steps ≡ now ++ later) × (text ≡ reply_text n r ++ rest) × Traces (suc n) lines later rest

-- The lines are replied by this text, with answers each of which is due to its event.
pub record IsTrace (lines : List (List ℕ)) (text : List ℕ) : Type 0 where
  pub steps : List Step
  pub due : IsDue steps
  pub traces : Traces 1 lines steps text

-- All replies to the input were written, and it had so many lines.
pub record TracesAll (old new : Option (List ℕ)) (lines : ℕ) (input : List ℕ) : Type 0 where
  pub text : List ℕ
  pub is : IsTrace (lines_of input) text
  pub replies : Appends old new text
  pub counted : lines ≡ length (lines_of input)

-- For some first ones of these lines, what was written is a prefix of their replies.
pub record TracesFront (old new : Option (List ℕ)) (lines : List (List ℕ)) : Type 0 where
  pub front : List (List ℕ)
  pub later : List (List ℕ)
  pub text : List ℕ
  pub cut : lines ≡ front ++ later
  pub is : IsTrace front text
  pub replies : AppendsFront old new text
