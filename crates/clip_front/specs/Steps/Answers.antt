-- What the answering of a line leaves: the stepping stone from one line to the whole input.
use Rattle.std.specs.Prelude.{◌≡◌, ℕ, List, ◌++◌, map, Result, Ok, Err, ⊤}
use Rattle.std.specs.Arc.{arc_value}
use Rattle.std.specs.declared.alloc.Global.{Global}
use Rattle.std.specs.declared.sync.Arc.{Arc}
use Rattle.std.specs.declared.vec.Vec.{Vec}
use Rattle.clip_model.specs.History.{History}
use Rattle.clip_model.specs.Standing.{Standing}
use Rattle.clip_listen.specs.Heard.{Hearer, told_all, HearsFront}
use Rattle.clip_ledger.specs.Rows.{RowValue}
use Rattle.clip_protocol.specs.Request.{Listing}
use Rattle.clip_protocol.specs.LineMeaning.{Meaning, Means, IsTakenAs, AreTakenAs, IsRefusedFor, FirstRefused, after}
use Rattle.clip_protocol.specs.Reply.{Reply, answer_to, reply, reply_text}
use Rattle.clip_front.specs.Outcome.{alerts_told, rows_posted, kept_rows, names_in}
use Rattle.clip_protocol.specs.Steps.Outline.{Outline, MeansOutline, matches}
use Rattle.clip_front.specs.Steps.Serving.{Answering, Breaking}
use Rattle.clip_front.specs.Steps.Taking.{IsQuiet}
use Rattle.clip_protocol.specs.declared.listing.ListFault.{ListFault}
use Rattle.clip_protocol.specs.declared.listing.ListFault.TheVariants as fault
use Rattle.clip_front.specs.declared.answer.Step.{Step}
use Rattle.clip_front.specs.declared.answer.Step.TheVariants as step
use Rattle.clip_front.specs.declared.books.Books.{Books}
use Rattle.clip_front.specs.declared.settings.Settings.{Settings}
use Rattle.clip_stream.specs.declared.form.Form.{Form}
use Rattle.clip_protocol.specs.declared.refusal.Unread.{Unread}
use Rattle.clip_protocol.specs.declared.refusal.Unread.TheVariants as unread

-- ---- lists of queries

-- The listed query is taken as this standing one, or it is refused for this reason.
abbrev pub TakesListing : List (List ℕ) → Listing → Result (Arc Standing Global) Unread → Type 0
TakesListing names l (Ok s) = IsTakenAs names l (arc_value s)
TakesListing names l (Err (unread.Refused r)) = IsRefusedFor names l r
TakesListing names l (Err unread.NoMemory) = ⊤

-- The queries are taken as these standing ones, or the first that is refused is at this place.
abbrev pub TakesList : List (List ℕ) → List Listing → Result (Vec (Arc Standing Global) Global) ListFault → Type 0
TakesList names listings (Ok all) = AreTakenAs names listings (map arc_value all.items)
TakesList names listings (Err (fault.Refused r k)) = FirstRefused names listings r k
TakesList names listings (Err fault.NoMemory) = ⊤

-- ---- a line that tells no alert

-- From the first history to the second by a line that means this and tells no alert, and in each form and whoever
-- listens, this is the reply.
pub record Replies (old new : History) (m : Meaning) (r : Reply) : Type 0 where
  pub quiet : IsQuiet m
  pub history : new ≡ after old m
  pub reply : (form : Form) (hearers : List Hearer) → r ≡ answer_to form hearers old m

-- Such a line says this, and this is the reply to it.
abbrev pub Settles : List (List ℕ) → History → History → Outline → Reply → Type 0
Settles names old new o r = (m : Meaning) × MeansOutline names old o m × Replies old new m r

-- It is the text of this reply to line n.
abbrev pub Says : ℕ → Reply → Step → Type 0
Says n r (step.Reply text) = text.items ≡ reply_text n r
Says n r (step.Match drafts) = ⊥

-- Line n is answered by the text of its reply, or it lists the articles that these drafts are.
abbrev pub Comes : List (List ℕ) → History → History → ℕ → Outline → Step → Type 0
Comes names old new n o (step.Reply text) = (r : Reply) × Settles names old new o r × (text.items ≡ reply_text n r)
Comes names old new n o (step.Match drafts) = (o ≡ matches drafts.items) × (new ≡ old)

-- ---- any line

-- what a run holds between two lines: what was accepted, what the listeners have heard, the rows, where they are kept,
-- and its settings
pub record Held : Type 0 where
  pub history : History
  pub hearers : List Hearer
  pub rows : List RowValue
  pub settings : Settings

abbrev pub held : History → List Hearer → Books → Held
held history hearers books = record
    { history = history; hearers = hearers; rows = books.ledger; settings = books.settings }

-- what it holds after line n, which means this
abbrev pub held_after : Held → ℕ → Meaning → Held
held_after s n m = record {
  history = after s.history m;
  hearers = told_all (alerts_told s.history m) s.hearers;
  rows = s.rows ++ kept_rows s.settings.keeps_rows (rows_posted s.hearers n s.history m);
  settings = s.settings;
}

-- The run goes on by line n, which means this, and this is the text of the reply.
pub record GoesOn (old new : Held) (n : ℕ) (m : Meaning) (text : List ℕ) : Type 0 where
  pub leaves : new ≡ held_after old n m
  pub replies : text ≡ reply old.settings.form old.hearers n old.history m

-- The run goes on by line n, which is these bytes, and this is the text of the reply.
pub record Answers (old new : Held) (n : ℕ) (line text : List ℕ) : Type 0 where
  pub meaning : Meaning
  pub means : Means (names_in old.hearers) old.history line meaning
  pub goes_on : GoesOn old new n meaning text

-- Where the answering of line n was broken off, the listeners have heard a front of the line's alerts, and the text
-- that was on its way is a front of the reply.
pub record Breaks (old new : Held) (n : ℕ) (line text : List ℕ) : Type 0 where
  pub meaning : Meaning
  pub means : Means (names_in old.hearers) old.history line meaning
  pub heard : HearsFront (alerts_told old.history meaning) old.hearers new.hearers
  pub more : List ℕ
  pub replies : reply old.settings.form old.hearers n old.history meaning ≡ text ++ more

-- ---- by a server

-- each line is answered by what is held
abbrev pub AnswersIn : {S : Type 0} → (S → Held) → Answering S
AnswersIn view s t n line text = Answers (view s) (view t) n line text

-- nothing but a front of the line's alerts was told, and of its reply none was on its way but a front
abbrev pub BreaksIn : {S : Type 0} → (S → Held) → Breaking S
BreaksIn view s t n line text = Breaks (view s) (view t) n line text
