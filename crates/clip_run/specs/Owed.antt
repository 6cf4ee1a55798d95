-- What a run owes to lines that it has taken, and what it gives meanwhile.
use Rattle.std.specs.Prelude.{◌≡◌, ℕ, suc, List, [], ◌∷◌, ◌++◌, Option}
use Rattle.clip_stream.specs.Device.{AppendsFront, HandsOver}
use Rattle.clip_meaning.specs.Article.{ArticleValue}
use Rattle.clip_model.specs.History.{History}
use Rattle.clip_listen.specs.Heard.{Hearer, told_all, HearsFront}
use Rattle.clip_ledger.specs.Rows.{RowValue}
use Rattle.clip_protocol.specs.LineMeaning.{Meaning, Means, after, matching}
use Rattle.clip_front.specs.Outcome.{Outcome, nothing_given, followed_by, given, names_in, kept_rows}
use Rattle.clip_front.specs.declared.settings.Settings.{Settings}
use Rattle.clip_front.specs.Steps.Serving.{Answering, Breaking}

-- the text of a reply, or what line n gives that asks for these articles after the history
pub data Owed : Type 0 where
  ready : List ℕ → Owed
  matched : ℕ → History → List ArticleValue → Owed

-- how many batches wait among what is owed
abbrev pub batches_owed : List Owed → ℕ
batches_owed [] = 0
batches_owed (ready text ∷ owed) = batches_owed owed
batches_owed (matched n h articles ∷ owed) = suc (batches_owed owed)

abbrev pub owed_of : List Hearer → Owed → Outcome
owed_of hearers (ready text) = record { text = λ form. text; alerts = []; rows = [] }
owed_of hearers (matched n h articles) = given hearers n h (matching articles)

-- what is owed, one after the other
abbrev pub owes : List Hearer → List Owed → Outcome
owes hearers [] = nothing_given
owes hearers (o ∷ owed) = followed_by (owed_of hearers o) (owes hearers owed)

-- what a run holds between two lines: what was accepted, what the listeners have heard, the rows, where they are kept,
-- its settings, and what it owes
pub record Course : Type 0 where
  pub history : History
  pub hearers : List Hearer
  pub rows : List RowValue
  pub settings : Settings
  pub owed : List Owed

-- This much was given: its alerts are told, and its rows kept.
pub record Gave (old new : Course) (out : Outcome) : Type 0 where
  pub heard : new.hearers ≡ told_all out.alerts old.hearers
  pub rows : new.rows ≡ old.rows ++ kept_rows old.settings.keeps_rows out.rows
  pub settings : new.settings ≡ old.settings

-- Of what was owed, a front was given, with this text. The rest is still owed.
pub record Pays (old new : Course) (text : List ℕ) : Type 0 where
  pub out : Outcome
  pub gave : Gave old new out
  pub printed : out.text old.settings.form ≡ text
  pub history : new.history ≡ old.history
  pub rest : owes old.hearers old.owed ≡ followed_by out (owes old.hearers new.owed)

-- Line n was taken. Of what was owed and what the line gives, a front was given, with this text. The rest is still
-- owed.
pub record Turns (old new : Course) (n : ℕ) (line text : List ℕ) : Type 0 where
  pub meaning : Meaning
  pub means : Means (names_in old.hearers) old.history line meaning
  pub history : new.history ≡ after old.history meaning
  pub out : Outcome
  pub gave : Gave old new out
  pub printed : out.text old.settings.form ≡ text
  pub rest : followed_by (owes old.hearers old.owed) (given old.hearers n old.history meaning)
      ≡ followed_by out (owes old.hearers new.owed)

-- The run was broken off at line n: the listeners have heard a prefix of the alerts of what was owed and of what
-- the line gives, and this text, which was on its way, is a prefix of theirs.
pub record BreaksOff (old new : Course) (n : ℕ) (line text : List ℕ) : Type 0 where
  pub meaning : Meaning
  pub means : Means (names_in old.hearers) old.history line meaning
  pub heard : HearsFront (followed_by (owes old.hearers old.owed) (given old.hearers n old.history meaning)).alerts
      old.hearers new.hearers
  pub more : List ℕ
  pub printed : (followed_by (owes old.hearers old.owed) (given old.hearers n old.history meaning)).text
      old.settings.form ≡ text ++ more

-- how a server answers that holds this
abbrev pub TurnsIn : {S : Type 0} → (S → Course) → Answering S
TurnsIn view s t n line text = Turns (view s) (view t) n line text

-- and how it is broken off
abbrev pub BreaksIn : {S : Type 0} → (S → Course) → Breaking S
BreaksIn view s t n line text = BreaksOff (view s) (view t) n line text

-- Of what is owed, a prefix of the alerts was heard, and this text is a prefix of its text.
pub record HearsOwed (old new : Course) (text : List ℕ) : Type 0 where
  pub heard : HearsFront (owes old.hearers old.owed).alerts old.hearers new.hearers
  pub more : List ℕ
  pub printed : (owes old.hearers old.owed).text old.settings.form ≡ text ++ more

-- A prefix of what was owed was given, and its text is written or gathered behind what was gathered.
pub record PaysInto (old new : Course) (taken_old : Option (List ℕ)) (gathered_old : List ℕ)
    (taken_new : Option (List ℕ)) (gathered_new : List ℕ) : Type 0 where
  pub text : List ℕ
  pub pays : Pays old new text
  pub handed : HandsOver taken_old (gathered_old ++ text) taken_new gathered_new

-- The giving of what was owed was broken off, and of what was gathered and the text a prefix was written.
pub record StopsPaying (old new : Course) (taken_old : Option (List ℕ)) (gathered : List ℕ)
    (taken_new : Option (List ℕ)) : Type 0 where
  pub text : List ℕ
  pub broken : HearsOwed old new text
  pub written : AppendsFront taken_old taken_new (gathered ++ text)

-- the course that owes these
abbrev pub with_owed : Course → List Owed → Course
with_owed s owed = record {
  history = s.history;
  hearers = s.hearers;
  rows = s.rows;
  settings = s.settings;
  owed = owed;
}
