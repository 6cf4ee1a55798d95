-- How lines of the input are answered one by one.
use Rattle.std.specs.Prelude.{◌≡◌, []}
use Rattle.clip_front.specs.Steps.Serving.{Answering, Breaking}
use Rattle.clip_explain_lines.specs.Asked.{input_of}
use Rattle.clip_explain_lines.specs.Replied.{RepliesIn}
use Rattle.clip_explain_lines.specs.declared.form.Form.{Form}

-- the answering of each line in the form of the state, which stays
abbrev pub AnswersIn : {S : Type 0} → (S → Form) → Answering S
AnswersIn form s t n line text = RepliesIn (form s) (input_of line) text × (form t ≡ form s)

-- of an answering that was broken off nothing was on its way
abbrev pub BreaksIn : {S : Type 0} → Breaking S
BreaksIn s t n line text = text ≡ []
