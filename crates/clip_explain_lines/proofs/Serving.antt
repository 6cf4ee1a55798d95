-- What a run writes, by the replies to its lines.
use Rattle.std.proofs.Common.{◌≡◌, ℕ, suc, List, [], ◌∷◌, ◌++◌, Bool, true, false, cond, Option, Some, None}
use Rattle.std.proofs.Common.{if◌then◌else◌}
use Rattle.std.proofs.Common.{refl, sym, ap, ◌∙◌, subst, append-nil, length, inl, inr}
use Rattle.serde_json.specs.Data.{Data}
use Rattle.clip_stream.specs.Device.{AppendsFront}
use Rattle.clip_stream.specs.Lines.{lines_of, OfInput, OfLinesRead}
use Rattle.clip_stream.proofs.LinesRead.{of_input_weaker, of_lines_read_weaker}
use Rattle.clip_stream.specs.Steps.Reading.{cut}
use Rattle.clip_protocol.specs.LineMeaning.{blank, is_blank, json_of}
use Rattle.clip_protocol.specs.Steps.Saying.{line_value, value_said}
use Rattle.clip_front.specs.Steps.Serving.{Serves, StopsAt, ServesAll, ServesFront}
use Rattle.clip_front.proofs.Served.{choose, cut_is_long, cut_is_whole}
use Rattle.clip_explain_lines.specs.Asked.{input_of, input_said}
use Rattle.clip_explain_lines.specs.Replied.{RepliesIn, AreReplied, RepliesAll, RepliesFront}
use Rattle.clip_explain_lines.specs.Steps.Serving.{AnswersIn, BreaksIn}
use Rattle.clip_explain_lines.specs.declared.form.Form.{Form}

input_of-cut : (line : List ℕ) → input_of (cut line) ≡ input_of line
unfolding line_value
input_of-cut line = ap input_said (choose _ _ _ _ _ (cut_is_long line)
    (λ e. ap (λ l. if is_blank l then blank else value_said (json_of l)) (cut_is_whole line e)))

are_replied : {S : Type 0} (form : S → Form) (s t : S) (f : Form) (n : ℕ) (lines : List (List ℕ)) (text : List ℕ)
    → form s ≡ f → Serves (AnswersIn form) s t n lines text → AreReplied f lines text
are_replied form s t f n [] text is p = p.1
are_replied form s t f n (line ∷ lines) text is p =
    let whole = subst (λ i. RepliesIn (form s) i p.1) (input_of-cut line) p.3.0 in (
      p.1,
      p.2,
      subst (λ g. RepliesIn g (input_of line) p.1) is whole,
      p.4,
      are_replied form p.0 t f (suc n) lines p.2 (p.3.1 ∙ is) p.5,
    )

pub run_gives : {S : Type 0} (form : S → Form) (s t : S) (f : Form) (left taken_first taken : Option (List ℕ))
    (count : ℕ)
    → form s ≡ f → OfInput left (ServesAll (AnswersIn form) s t taken_first taken count)
    → OfInput left (RepliesAll f taken_first taken count)
run_gives form s t f left taken_first taken count is p =
    of_input_weaker left (ServesAll (AnswersIn form) s t taken_first taken count)
    (RepliesAll f taken_first taken count)
    (λ input served. record {
      told = served.text;
      are = are_replied form s t f 1 (lines_of input) served.text is served.served;
      written = served.written;
      counted = served.counted;
    }) p

-- nothing of the line that was begun was on its way
none_begun : {S : Type 0} (s t : S) (n : ℕ) (later : List (List ℕ)) (begun : List ℕ)
    → StopsAt BreaksIn s t n later begun
    → begun ≡ []
none_begun s t n [] begun stopped = stopped.1
none_begun s t n (line ∷ later) begun (inl stopped) = stopped.1
none_begun s t n (line ∷ later) begun (inr broken) = broken

written_of : {S : Type 0} (s t : S) (n : ℕ) (later : List (List ℕ)) (text begun : List ℕ)
    (taken_first taken : Option (List ℕ)) → StopsAt BreaksIn s t n later begun
    → AppendsFront taken_first taken (text ++ begun) → AppendsFront taken_first taken text
written_of s t n later text begun taken_first taken stops written =
    subst (AppendsFront taken_first taken)
    (ap (λ x. text ++ x) (none_begun s t n later begun stops) ∙ append-nil text) written

pub run_gives_front : {S : Type 0} (form : S → Form) (s t : S) (f : Form) (left left_new : Option (List ℕ))
    (met_end : Bool) (taken_first taken : Option (List ℕ)) → form s ≡ f
    → OfLinesRead left left_new met_end (ServesFront (AnswersIn form) BreaksIn s t taken_first taken)
    → OfLinesRead left left_new met_end (RepliesFront f taken_first taken)
run_gives_front form s t f left left_new met_end taken_first taken is p =
    of_lines_read_weaker left left_new met_end (ServesFront (AnswersIn form) BreaksIn s t taken_first taken)
    (RepliesFront f taken_first taken)
    (λ lines served. record {
      front = served.front;
      later = served.later;
      told = served.text;
      parts = served.parts;
      are = are_replied form s served.between f 1 served.front served.text is served.served;
      written = written_of served.between t (suc (length served.front)) served.later served.text served.begun
          taken_first taken served.stops served.written;
    }) p
