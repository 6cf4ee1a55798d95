-- What a trace gives, by the answers to its lines.
use Rattle.std.proofs.Common.{◌≡◌, ℕ, suc, List, [], ◌∷◌, ◌++◌, map, Bool, Option, refl}
use Rattle.std.proofs.Common.{sym, ap, ◌∙◌, subst, append_assoc, append-nil, length, inl, inr, if◌then◌else◌}
use Rattle.clip_standing.specs.Alerts.{alerts_value}
use Rattle.clip_standing.specs.declared.alert.Alerts.{Alerts}
use Rattle.clip_stream.specs.Device.{AppendsFront}
use Rattle.clip_stream.specs.Lines.{lines_of, OfInput, OfLinesRead}
use Rattle.clip_stream.proofs.LinesRead.{of_input_weaker, of_lines_read_weaker}
use Rattle.clip_stream.specs.Steps.Reading.{cut}
use Rattle.clip_trace.specs.Event.{found_of}
use Rattle.clip_trace.specs.Schedule.{Step, Stand, IsDue, stand, nothing_open}
use Rattle.clip_protocol.specs.LineMeaning.{blank, is_blank, json_of}
use Rattle.clip_protocol.specs.Steps.Saying.{value_said, line_value, said_of}
use Rattle.clip_trace.specs.TraceLine.{Said, SaysLine, SaysTrace}
use Rattle.clip_trace.specs.TraceOutcome.{found_shown, Traces, IsTrace, TracesAll, TracesFront}
use Rattle.clip_trace.specs.TraceRequest.{TraceRequest, trace_value, trace_within}
use Rattle.clip_front.specs.Steps.Serving.{Serves, StopsAt, ServesAll, ServesFront}
use Rattle.clip_trace.specs.Steps.TraceOutline.{trace_request_of, trace_line, AnswersTraced, AnswersIn, BreaksIn}
use Rattle.clip_protocol.specs.Steps.Views.{alerts_by_id}
use Rattle.clip_protocol.proofs.Saying.{Requests, says_found}
use Rattle.clip_front.proofs.Served.{choose, cut_is_long, cut_is_whole}
use Rattle.clip_trace.proofs.TraceRequestLaw.{trace_request_of-trace_value, trace_value-trace_request_of}

-- ---- replies

pub shown_found : (found : List Alerts) → map alerts_by_id (map alerts_value found)
    ≡ map found_shown (map (λ a. found_of (alerts_value a)) found)
shown_found [] = refl
shown_found (a ∷ found) = ap (λ rest. alerts_by_id (alerts_value a) ∷ rest) (shown_found found)

-- ---- what a line says

abbrev traces : Requests TraceRequest
traces = record {
  value = trace_value;
  read = trace_request_of;
  within = trace_within;
  finds = trace_request_of-trace_value;
  only = trace_value-trace_request_of;
}

line_value-cut : (line : List ℕ) → line_value (cut line) ≡ line_value line
unfolding line_value
line_value-cut line = choose _ _ _ _ _ (cut_is_long line)
    (λ e. ap (λ l. if is_blank l then blank else value_said (json_of l)) (cut_is_whole line e))

says_whole : (line : List ℕ) (s : Said) → SaysLine (trace_line (cut line)) s → SaysTrace line s
says_whole line s says =
    record {
      line = trace_line line;
      is = says_found traces line;
      says =
          subst (λ l. SaysLine (said_of trace_request_of trace_within l) s) (line_value-cut line) says;
    }

-- ---- lines one after the other

-- the steps of the lines, after those before them
record TracedBy (s t : Stand) (n : ℕ) (lines : List (List ℕ)) (text : List ℕ) : Type 0 where
  steps : List Step
  traces : Traces n lines steps text
  played : (before : List Step) → IsDue before → stand before ≡ s
      → IsDue (before ++ steps) × (stand (before ++ steps) ≡ t)

traced_first : (s t u : Stand) (n : ℕ) (line first rest text : List ℕ) (lines : List (List ℕ))
    → AnswersTraced s t n (cut line) first → text ≡ first ++ rest → TracedBy t u (suc n) lines rest
    → TracedBy s u n (line ∷ lines) text
traced_first s t u n line first rest text lines a e later =
    let now = a.responds.steps in
    record {
      steps = now ++ later.steps;
      traces = (
        a.said,
        now,
        a.answered,
        later.steps,
        rest,
        says_whole line a.said a.says,
        a.responds.replies,
        refl,
        e
            ∙ ap (λ x. x ++ rest) a.printed,
        later.traces,
      );
      played = λ before due there.
          let so = a.responds.played before due there in
          let all = later.played (before ++ now) so.0 so.1 in
          subst (λ xs. IsDue xs × (stand xs ≡ u)) (append_assoc before now later.steps) all;
    }

traced_by : {S : Type 0} (view : S → Stand) (s t : S) (n : ℕ) (lines : List (List ℕ)) (text : List ℕ)
    → Serves (AnswersIn view) s t n lines text → TracedBy (view s) (view t) n lines text
traced_by view s t n [] text p = record {
  steps = [];
  traces = (refl, p.1);
  played = λ before due there. subst (λ xs. IsDue xs × (stand xs ≡ view t)) (sym (append-nil before)) (
    due,
    there
        ∙ sym (ap view p.0),
  );
}
traced_by view s t n (line ∷ lines) text p =
    traced_first (view s) (view p.0) (view t) n line p.1 p.2 text lines p.3 p.4
    (traced_by view p.0 t (suc n) lines p.2 p.5)

-- ---- from the beginning

cons_is_none : {A : Type 0} (x : A) (xs : List A) → [] ≡ x ∷ xs → ⊥
cons_is_none x xs e = cc

none_before : (before later : List Step) (step : Step) → [] ≡ before ++ step ∷ later → ⊥
none_before [] later step e = cons_is_none step later e
none_before (x ∷ before) later step e = cons_is_none x (before ++ step ∷ later) e

none_due : IsDue []
none_due = record { each = λ before later step e. absurd (none_before before later step e) }

is_trace : {S : Type 0} (view : S → Stand) (s t : S) (lines : List (List ℕ)) (text : List ℕ) → view s ≡ nothing_open
    → Serves (AnswersIn view) s t 1 lines text → IsTrace lines text
is_trace view s t lines text start p =
    let by = traced_by view s t 1 lines text p in
    record { steps = by.steps; due = (by.played [] none_due (sym start)).0; traces = by.traces }

pub trace_gives : {S : Type 0} (view : S → Stand) (s t : S) (left taken_first taken : Option (List ℕ)) (count : ℕ)
    → view s ≡ nothing_open → OfInput left (ServesAll (AnswersIn view) s t taken_first taken count)
    → OfInput left (TracesAll taken_first taken count)
trace_gives view s t left taken_first taken count start p =
    of_input_weaker left (ServesAll (AnswersIn view) s t taken_first taken count) (TracesAll taken_first taken count)
    (λ input served. record {
      text = served.text;
      is =
          is_trace view s t (lines_of input) served.text start served.served;
      replies = served.written;
      counted =
          served.counted;
    }) p

-- nothing of the line that was begun was on its way
none_begun : {S : Type 0} (s t : S) (n : ℕ) (later : List (List ℕ)) (begun : List ℕ)
    → StopsAt BreaksIn s t n later begun → begun ≡ []
none_begun s t n [] begun stopped = stopped.1
none_begun s t n (line ∷ later) begun (inl stopped) = stopped.1
none_begun s t n (line ∷ later) begun (inr broken) = broken

written_of : {S : Type 0} (s t : S) (n : ℕ) (later : List (List ℕ)) (text begun : List ℕ)
    (taken_first taken : Option (List ℕ)) → StopsAt BreaksIn s t n later begun
    → AppendsFront taken_first taken (text ++ begun) → AppendsFront taken_first taken text
written_of s t n later text begun taken_first taken stops written =
    subst (AppendsFront taken_first taken) (ap (λ x. text ++ x) (none_begun s t n later begun stops)
    ∙ append-nil text) written

pub trace_gives_front : {S : Type 0} (view : S → Stand) (s t : S) (left left_new : Option (List ℕ)) (met_end : Bool)
    (taken_first taken : Option (List ℕ)) → view s ≡ nothing_open
    → OfLinesRead left left_new met_end (ServesFront (AnswersIn view) BreaksIn s t taken_first taken)
    → OfLinesRead left left_new met_end (TracesFront taken_first taken)
trace_gives_front view s t left left_new met_end taken_first taken start p =
    of_lines_read_weaker left left_new met_end (ServesFront (AnswersIn view) BreaksIn s t taken_first taken)
    (TracesFront taken_first taken) (λ lines served. record {
      front = served.front;
      later = served.later;
      text =
          served.text;
      cut = served.parts;
      is =
          is_trace view s served.between served.front served.text start served.served;
      replies =
          written_of served.between t (suc (length served.front)) served.later served.text served.begun
          taken_first taken served.stops served.written;
    }) p
