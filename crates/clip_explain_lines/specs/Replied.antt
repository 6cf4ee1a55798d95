-- What is replied to the lines of the input.
use Rattle.std.specs.Prelude.{◌≡◌, ℕ, List, [], ◌∷◌, ◌++◌, length, ⊤, Option}
use Rattle.std.specs.Io.KnownBytes.{Appends}
use Rattle.clip_stream.specs.Device.{AppendsFront}
use Rattle.clip_stream.specs.Lines.{lines_of}
use Rattle.clip_protocol.specs.Reply.{printed}
use Rattle.serde_json.specs.Data.{Data}
use Rattle.serde_json.specs.Written.{compact_text}
use Rattle.clip_explain_lines.specs.Asked.{Ask, query, text, line, Input, blank, refused, asks, input_of, refused_data}
use Rattle.clip_explain_lines.specs.LineTold.{LineTells}
use Rattle.clip_explain_lines.specs.SpansData.{words_data}
use Rattle.clip_explain_lines.specs.Told.{Tells}
use Rattle.clip_explain_lines.specs.declared.form.Form.{Form}
use Rattle.clip_explain_lines.specs.declared.form.Form.TheVariants.{Json, Plain}

-- the answer, as JSON, to what is asked
abbrev pub Answers : Ask → List ℕ → Type 0
Answers (query told) answer = Tells told answer
Answers (text told) answer = answer ≡ compact_text (words_data told)
Answers (line bytes) answer = (told : Data) × LineTells bytes told × (answer ≡ compact_text told)

-- the reply to a line of the input: none to a blank one, a refusal with some sentence, or the answer and a line feed
abbrev pub Replies : Input → List ℕ → Type 0
Replies blank reply = reply ≡ []
Replies (refused why) reply = (says : List ℕ) × (reply ≡ printed (refused_data why says))
Replies (asks ask) reply = (answer : List ℕ) × Answers ask answer × (reply ≡ answer ++ 10 ∷ [])

-- The reply in a form; of that for people nothing is said here.
abbrev pub RepliesIn : Form → Input → List ℕ → Type 0
RepliesIn Json input reply = Replies input reply
RepliesIn Plain input reply = ⊤

-- the lines are replied by this text
abbrev pub AreReplied : Form → List (List ℕ) → List ℕ → Type 0
AreReplied form [] told = told ≡ []
AreReplied form (bytes ∷ lines) told =
    (first : List ℕ) × (rest : List ℕ) × RepliesIn form (input_of bytes) first × (told ≡ first ++ rest)
    × AreReplied form lines rest

-- All replies to the input were written, and it had so many lines.
pub record RepliesAll (form : Form) (old new : Option (List ℕ)) (count : ℕ) (input : List ℕ) : Type 0 where
  pub told : List ℕ
  pub are : AreReplied form (lines_of input) told
  pub written : Appends old new told
  pub counted : count ≡ length (lines_of input)

-- For some first ones of these lines, what was written is a prefix of their replies.
pub record RepliesFront (form : Form) (old new : Option (List ℕ)) (lines : List (List ℕ)) : Type 0 where
  pub front : List (List ℕ)
  pub later : List (List ℕ)
  pub told : List ℕ
  pub parts : lines ≡ front ++ later
  pub are : AreReplied form front told
  pub written : AppendsFront old new told
