-- What is told of a line of the protocol: for what it would be refused, whatever is registered and whoever listens.
use Rattle.std.specs.Prelude.{◌≡◌, ◌⊎◌, ◌≤◌, ℕ, suc, List, [], ◌∷◌, length, Some, codes}
use Rattle.serde_json.specs.Data.{Data, null, string}
use Rattle.clip_stream.specs.declared.limits.TheConstants.{MOST_LINE_BYTES}
use Rattle.clip_protocol.specs.LineMeaning.{Line, blank, refused, asks, Says, IsAQuery, json_of}
use Rattle.clip_protocol.specs.Refusal.{word_of}
use Rattle.clip_protocol.specs.Reply.{number_of}
use Rattle.clip_protocol.specs.Request.{Listing, Request, register, object_of}
use Rattle.clip_protocol.specs.declared.refusal.Refusal.{Refusal}
use Rattle.clip_protocol.specs.declared.refusal.Refusal.TheVariants.{Long, Json, Query}
use Rattle.clip_cause.specs.Faults.{Fault}
use Rattle.clip_cause.specs.First.{IsFirstFault}
use Rattle.clip_cause.specs.Names.{queries}
use Rattle.clip_cause.specs.Path.{Path, to_member, to_item, path_text}
use Rattle.clip_cause.specs.Wrong.{refusal_of, sentence_of}

-- ---- as JSON

-- the member that says where a line is wrong: at a byte, or at the member of this path
abbrev pub at_byte : ℕ → List ℕ × Data
at_byte at = (codes "at", number_of at)

abbrev pub at_member : List ℕ → List ℕ × Data
at_member path = (codes "member", string path)

-- it would be refused, wrong there, with a sentence
abbrev pub refused_there : List ℕ × Data → Refusal → List ℕ → Data
refused_there place why says =
    object_of (place ∷ (codes "refused", string (word_of why)) ∷ (codes "says", string says) ∷ [])

-- it would not
abbrev pub not_refused : Data
not_refused = object_of ((codes "refused", null) ∷ [])

-- ---- a register

-- to the text of the query at this place
abbrev pub query_path : ℕ → Path
query_path place = to_member queries ∷ to_item place ∷ to_member (codes "query") ∷ []

-- of queries from this place on: the first that is none, with some sentence, or no refusal where each is one
abbrev pub TellsOfQueries : ℕ → List Listing → Data → Type 0
TellsOfQueries place [] told = told ≡ not_refused
TellsOfQueries place (l ∷ ls) told =
    (IsAQuery l.query × TellsOfQueries (suc place) ls told)
    ⊎ (¬ (IsAQuery l.query) × (says : List ℕ)
    × (told ≡ refused_there (at_member (path_text (query_path place))) Query says))

-- ---- a line

-- the first fault of its value
abbrev pub TellsOfFault : List ℕ → Refusal → Data → Type 0
TellsOfFault line why told =
    (d : Data) × (f : Fault) × (json_of line ≡ Some d) × IsFirstFault d (Some f) × (refusal_of f.1 ≡ why)
    × (told ≡ refused_there (at_member (path_text f.0)) why (sentence_of f.1))

-- of a line that says this
abbrev pub TellsOfSaid : List ℕ → Line Request → Data → Type 0
TellsOfSaid line (refused Long) told = (says : List ℕ) × (told ≡ refused_there (at_byte MOST_LINE_BYTES) Long says)
TellsOfSaid line (refused Json) told =
    (at : ℕ) × (says : List ℕ) × (at ≤ length line) × (told ≡ refused_there (at_byte at) Json says)
TellsOfSaid line (refused why) told = TellsOfFault line why told
TellsOfSaid line (asks (register listings)) told = TellsOfQueries 0 listings told
TellsOfSaid line (asks r) told = told ≡ not_refused
TellsOfSaid line blank told = told ≡ not_refused

-- This is told of the line.
pub record LineTells (line : List ℕ) (told : Data) : Type 0 where
  pub says : Line Request
  pub is_said : Says line says
  pub tells : TellsOfSaid line says told
