-- What a run gives, by the answers to its lines.
use Rattle.std.proofs.Common.{◌≡◌, ℕ, zero, suc, ◌≤◌, List, [], ◌∷◌, ◌++◌, length, take, Bool, true, false}
use Rattle.std.proofs.Common.{cond, Option, refl, sym, ap, ap₂, ◌∙◌, subst, arith, append_assoc, true≢false}
use Rattle.std.proofs.Common.{if◌then◌else◌}
use Rattle.std.specs.Prelude.{nat_lt}
use Rattle.std.specs.Io.KnownBytes.{Appends}
use Rattle.std.proofs.lemmas.Bool.Decides.{nat_tests}
use Rattle.std.proofs.lemmas.List.{length-take}
use Rattle.clip_stream.specs.Device.{AppendsFront}
use Rattle.clip_stream.proofs.Flows.{front_longer}
use Rattle.clip_stream.proofs.LinesRead.{of_input_weaker, of_lines_read_weaker}
use Rattle.clip_stream.specs.Lines.{lines_of, OfInput, OfLinesRead}
use Rattle.clip_stream.specs.Steps.Reading.{cut}
use Rattle.clip_stream.specs.declared.limits.TheConstants.{MOST_LINE_BYTES}
use Rattle.clip_model.specs.Alerts.{Alert}
use Rattle.clip_model.specs.History.{History}
use Rattle.clip_listen.specs.Heard.{Hearer, told_all, HearsFront}
use Rattle.clip_listen.proofs.Hearing.{no_front, told_none, told_more, names_told, front_after, front_of_more}
use Rattle.clip_protocol.specs.LineMeaning.{Meaning, is_long, is_blank, json_of, Means, after}
use Rattle.clip_front.specs.Outcome.{Outcome, nothing_given, followed_by, given, names_in, kept_rows, Gives}
use Rattle.clip_front.specs.Outcome.{GivesAllFrom, GivesFrontFrom, GivesLinesFrom}
use Rattle.clip_front.specs.declared.settings.Settings.{Settings}
use Rattle.clip_front.specs.Steps.Answers.{Held, Answers, AnswersIn, Breaks, BreaksIn}
use Rattle.clip_protocol.specs.Steps.Outline.{outline, blank, outline_of_value, MeansOutline}
use Rattle.clip_front.specs.Steps.Serving.{Serves, ServesAll, ServesFront, ServesLines}
use Rattle.clip_front.proofs.Begun.{begun_of}
use Rattle.clip_front.proofs.Delivering.{none_posted}
use Rattle.clip_protocol.proofs.Meanings.{means_from, means_to}
use Rattle.clip_front.proofs.OneOutcome.{gives_on}
use Rattle.clip_front.proofs.Outcomes.{followed_nothing, kept_append, given_kept}

-- ---- a line that is cut says no other thing

take_nothing : (k : ℕ) → take {A = ℕ} k [] ≡ []
take_nothing zero = refl
take_nothing (suc k) = refl

take_all : (n : ℕ) (xs : List ℕ) → length xs ≤ n → take n xs ≡ xs
take_all n [] h = take_nothing n
take_all zero (x ∷ xs) h = absurd (omega arith)
take_all (suc n) (x ∷ xs) h = ap (λ ys. x ∷ ys) (take_all n xs (omega arith))

pub choose : {A : Type 0} (s t : Bool) (u x y : A) → s ≡ t → (s ≡ false → x ≡ y) → cond s u x ≡ cond t u y
choose true true u x y e h = refl
choose false false u x y e h = h refl
choose true false u x y e h = absurd (true≢false e)
choose false true u x y e h = absurd (true≢false (sym e))

cut_at : (limit k : ℕ) (line : List ℕ) → k ≡ suc limit → nat_lt limit (length (take k line))
    ≡ nat_lt limit (length line)
cut_at limit k line e = let len = length-take k line in grind (arith, nat_tests, len, e)

cut_within : (limit k : ℕ) (line : List ℕ) → k ≡ suc limit → nat_lt limit (length (take k line)) ≡ false
    → take k line ≡ line
cut_within limit k line e h = take_all k line (let len = length-take k line in grind (arith, nat_tests, len, e, h))

pub cut_is_long : (line : List ℕ) → is_long (cut line) ≡ is_long line
unfolding cut
cut_is_long line = cut_at MOST_LINE_BYTES (suc MOST_LINE_BYTES) line refl

pub cut_is_whole : (line : List ℕ) → is_long (cut line) ≡ false → cut line ≡ line
unfolding cut
cut_is_whole line = cut_within MOST_LINE_BYTES (suc MOST_LINE_BYTES) line refl

outline-cut : (line : List ℕ) → outline (cut line) ≡ outline line
unfolding outline
outline-cut line = choose _ _ _ _ _ (cut_is_long line)
    (λ e. ap (λ l. if is_blank l then blank else outline_of_value (json_of l)) (cut_is_whole line e))

means_cut : (names : List (List ℕ)) (h : History) (line : List ℕ) (m : Meaning) → Means names h (cut line) m
    → Means names h line m
means_cut names h line m means =
    means_from names h line m
    (subst (λ o. MeansOutline names h o m) (outline-cut line) (means_to names h (cut line) m means))

-- what was heard before changes nothing that is given
gives_kept : (front : List Alert) (hearers : List Hearer) (n : ℕ) (h : History) (lines : List (List ℕ)) (o : Outcome)
    → Gives (told_all front hearers) n h lines o → Gives hearers n h lines o
gives_kept front hearers n h [] o g = g
gives_kept front hearers n h (line ∷ lines) o g = (
  g.0,
  g.1,
  subst (λ ns. Means ns h line g.0) (names_told front hearers) g.2,
  g.3
      ∙ ap (λ x. followed_by x g.1) (given_kept front hearers n h g.0),
  gives_kept front hearers (suc n) (after h g.0) lines g.1 g.4,
)

-- a line that means this, and those after it, whatever was heard meanwhile
pub gives_first : (hearers : List Hearer) (n : ℕ) (h : History) (line : List ℕ) (lines : List (List ℕ)) (m : Meaning)
    (front : List Alert) (rest : Outcome) → Means (names_in hearers) h (cut line) m
    → Gives (told_all front hearers) (suc n) (after h m) lines rest
    → Gives hearers n h (line ∷ lines) (followed_by (given hearers n h m) rest)
gives_first hearers n h line lines m front rest means gives = (
  m,
  rest,
  means_cut (names_in hearers) h line m means,
  refl,
  gives_kept front hearers (suc n) (after h m) lines rest gives,
)

-- such a line alone
pub gives_one : (hearers : List Hearer) (n : ℕ) (h : History) (line : List ℕ) (m : Meaning)
    → Means (names_in hearers) h (cut line) m → Gives hearers n h (line ∷ []) (given hearers n h m)
gives_one hearers n h line m means = (
  m,
  nothing_given,
  means_cut (names_in hearers) h line m means,
  sym (followed_nothing (given hearers n h m)),
  refl,
)

-- ---- one line and those after it

-- what the line gives
abbrev given_now : (s t : Held) (n : ℕ) (line text : List ℕ) → Answers s t n line text → Outcome
given_now s t n line text answers = given s.hearers n s.history answers.meaning

heard_now : (s t : Held) (n : ℕ) (line text : List ℕ) (a : Answers s t n line text)
    → t.hearers ≡ told_all (given_now s t n line text a).alerts s.hearers
heard_now s t n line text a = ap (λ x. x.hearers) a.goes_on.leaves

text_now : (s t : Held) (n : ℕ) (line text : List ℕ) (a : Answers s t n line text)
    → (given_now s t n line text a).text s.settings.form ≡ text
text_now s t n line text a = sym a.goes_on.replies

gives_now : (s t : Held) (n : ℕ) (line text : List ℕ) (lines : List (List ℕ)) (rest : Outcome)
    (a : Answers s t n (cut line) text) → Gives t.hearers (suc n) t.history lines rest
    → Gives s.hearers n s.history (line ∷ lines) (followed_by (given_now s t n (cut line) text a) rest)
gives_now s t n line text lines rest a gives =
    gives_first s.hearers n s.history line lines a.meaning (given_now s t n (cut line) text a).alerts rest a.means
    (subst (λ x. Gives x.hearers (suc n) x.history lines rest) a.goes_on.leaves gives)

-- ---- all lines were answered

record GivenBy (s t : Held) (n : ℕ) (lines : List (List ℕ)) (text : List ℕ) : Type 0 where
  outcome : Outcome
  gives : Gives s.hearers n s.history lines outcome
  printed : outcome.text s.settings.form ≡ text
  heard : t.hearers ≡ told_all outcome.alerts s.hearers
  rows : t.rows ≡ s.rows ++ kept_rows s.settings.keeps_rows outcome.rows

given_first : (s t u : Held) (n : ℕ) (line first rest text : List ℕ) (lines : List (List ℕ))
    → Answers s t n (cut line) first → text ≡ first ++ rest → GivenBy t u (suc n) lines rest
    → GivenBy s u n (line ∷ lines) text
given_first s t u n line first rest text lines a e more =
    let now = given_now s t n (cut line) first a in
    record {
      outcome = followed_by now more.outcome;
      gives = gives_now s t n line first lines more.outcome a more.gives;
      printed = ap₂ (λ x y. x ++ y) (text_now s t n (cut line) first a)
          (ap (λ x. more.outcome.text x.settings.form) (sym a.goes_on.leaves) ∙ more.printed) ∙ sym e;
      heard = more.heard ∙ ap (told_all more.outcome.alerts) (heard_now s t n (cut line) first a)
          ∙ told_more now.alerts more.outcome.alerts s.hearers;
      rows =
          more.rows ∙ ap (λ x. x.rows ++ kept_rows x.settings.keeps_rows more.outcome.rows) a.goes_on.leaves
          ∙ append_assoc s.rows (kept_rows s.settings.keeps_rows now.rows)
          (kept_rows s.settings.keeps_rows more.outcome.rows)
          ∙ ap (λ xs. s.rows ++ xs) (kept_append s.settings.keeps_rows now.rows more.outcome.rows);
    }

given_by : {S : Type 0} (view : S → Held) (s t : S) (n : ℕ) (lines : List (List ℕ)) (text : List ℕ)
    → Serves (AnswersIn view) s t n lines text → GivenBy (view s) (view t) n lines text
given_by view s t n [] text p = record {
  outcome = nothing_given;
  gives = refl;
  printed = sym p.1;
  heard = ap (λ x. (view x).hearers) p.0 ∙ sym (told_none (view s).hearers);
  rows = ap (λ x. (view x).rows) p.0 ∙ none_posted (view s).settings.keeps_rows (view s).rows;
}
given_by view s t n (line ∷ lines) text p =
    given_first (view s) (view p.0) (view t) n line p.1 p.2 text lines p.3 p.4
    (given_by view p.0 t (suc n) lines p.2 p.5)

gives_all : {S : Type 0} (view : S → Held) (s t : S) (begins : History) (settings : Settings)
    (taken_first taken : Option (List ℕ)) (count : ℕ) (input : List ℕ) → (view s).history ≡ begins
    → (view s).rows ≡ [] → (view s).settings ≡ settings
    → ServesAll (AnswersIn view) s t taken_first taken count input
    → GivesAllFrom begins (view s).hearers (view t).hearers settings taken_first taken count (view t).rows input
gives_all view s t begins settings taken_first taken count input start none same p =
    let g = given_by view s t 1 (lines_of input) p.text p.served in
    record {
      outcome = g.outcome;
      is = subst (λ h. Gives (view s).hearers 1 h (lines_of input) g.outcome) start g.gives;
      replies = subst (Appends taken_first taken) (sym g.printed ∙ ap (λ k. g.outcome.text k.form) same) p.written;
      told = g.heard;
      rows = g.rows ∙ ap₂ (λ xs k. xs ++ kept_rows k.keeps_rows g.outcome.rows) none same;
      counted = p.counted;
    }

pub run_gives : {S : Type 0} (view : S → Held) (s t : S) (begins : History) (settings : Settings)
    (left taken_first taken : Option (List ℕ)) (count : ℕ) → (view s).history ≡ begins → (view s).rows ≡ []
    → (view s).settings ≡ settings
    → OfInput left (ServesAll (AnswersIn view) s t taken_first taken count)
    → OfInput left
    (GivesAllFrom begins (view s).hearers (view t).hearers settings taken_first taken count (view t).rows)
run_gives view s t begins settings left taken_first taken count start none same p =
    of_input_weaker left _ _
    (λ input served. gives_all view s t begins settings taken_first taken count input start none same served) p

gives_lines : {S : Type 0} (view : S → Held) (s t : S) (begins : History) (settings : Settings)
    (taken_first taken : Option (List ℕ)) (lines : List (List ℕ)) → (view s).history ≡ begins
    → (view s).settings ≡ settings → ServesLines (AnswersIn view) s t taken_first taken lines
    → GivesLinesFrom begins (view s).hearers (view t).hearers settings.form taken_first taken lines
gives_lines view s t begins settings taken_first taken lines start same p =
    let g = given_by view s t 1 lines p.text p.served in
    record {
      outcome = g.outcome;
      gives = subst (λ h. Gives (view s).hearers 1 h lines g.outcome) start g.gives;
      replies = subst (Appends taken_first taken) (sym g.printed ∙ ap (λ k. g.outcome.text k.form) same) p.written;
      told = g.heard;
    }

pub run_gives_lines : {S : Type 0} (view : S → Held) (s t : S) (begins : History) (settings : Settings)
    (left left_new : Option (List ℕ)) (met_end : Bool) (taken_first taken : Option (List ℕ))
    → (view s).history ≡ begins → (view s).settings ≡ settings
    → OfLinesRead left left_new met_end (ServesLines (AnswersIn view) s t taken_first taken)
    → OfLinesRead left left_new met_end
    (GivesLinesFrom begins (view s).hearers (view t).hearers settings.form taken_first taken)
run_gives_lines view s t begins settings left left_new met_end taken_first taken start same p =
    of_lines_read_weaker left left_new met_end _ _
    (λ lines served. gives_lines view s t begins settings taken_first taken lines start same served) p

-- ---- some first lines were answered, and the next was begun at most

-- the outcome of these lines, of whose text the front was answered
record BegunBy (s t : Held) (n : ℕ) (lines : List (List ℕ)) (text : List ℕ) : Type 0 where
  outcome : Outcome
  gives : Gives s.hearers n s.history lines outcome
  more : List ℕ
  printed : outcome.text s.settings.form ≡ text ++ more
  heard : HearsFront outcome.alerts s.hearers t.hearers

begun_none : (s : Held) (n : ℕ) → BegunBy s s n [] []
begun_none s n =
    record { outcome = nothing_given; gives = refl; more = []; printed = refl; heard = no_front [] s.hearers }

begun_here : (s t : Held) (n : ℕ) (line text : List ℕ) → Breaks s t n (cut line) text → BegunBy s t n (line ∷ []) text
begun_here s t n line text b = record {
  outcome = given s.hearers n s.history b.meaning;
  gives = gives_one s.hearers n s.history line b.meaning b.means;
  more = b.more;
  printed = b.replies;
  heard = b.heard;
}

begun_first : (s t u : Held) (n : ℕ) (line first rest text : List ℕ) (lines : List (List ℕ))
    → Answers s t n (cut line) first → text ≡ first ++ rest → BegunBy t u (suc n) lines rest
    → BegunBy s u n (line ∷ lines) text
begun_first s t u n line first rest text lines a e later =
    let now = given_now s t n (cut line) first a in
    record {
      outcome = followed_by now later.outcome;
      gives = gives_now s t n line first lines later.outcome a later.gives;
      more = later.more;
      printed = ap₂ (λ x y. x ++ y) (text_now s t n (cut line) first a)
          (ap (λ x. later.outcome.text x.settings.form) (sym a.goes_on.leaves) ∙ later.printed)
          ∙ sym (append_assoc first rest later.more) ∙ ap (λ x. x ++ later.more) (sym e);
      heard = front_after now.alerts later.outcome.alerts s.hearers t.hearers u.hearers
          (heard_now s t n (cut line) first a) later.heard;
    }

-- lines that were not begun
begun_more : (s t : Held) (n : ℕ) (lines later : List (List ℕ)) (text : List ℕ) → BegunBy s t n lines text
    → BegunBy s t n (lines ++ later) text
begun_more s t n lines later text b =
    let on = gives_on s.hearers n s.history lines later b.outcome b.gives in
    record {
      outcome = followed_by b.outcome on.0;
      gives = on.1;
      more = b.more ++ on.0.text s.settings.form;
      printed = ap (λ x. x ++ on.0.text s.settings.form) b.printed
          ∙ append_assoc text b.more (on.0.text s.settings.form);
      heard = front_of_more b.outcome.alerts on.0.alerts s.hearers t.hearers b.heard;
    }

front_given : (s t : Held) (begins : History) (taken_first taken : Option (List ℕ)) (text : List ℕ)
    (lines : List (List ℕ)) → s.history ≡ begins → BegunBy s t 1 lines text → AppendsFront taken_first taken text
    → GivesFrontFrom begins s.hearers t.hearers s.settings.form taken_first taken lines
front_given s t begins taken_first taken text lines start b written = record {
  outcome = b.outcome;
  gives = subst (λ h. Gives s.hearers 1 h lines b.outcome) start b.gives;
  replies = subst (AppendsFront taken_first taken) (sym b.printed) (front_longer taken_first taken text b.more written);
  told = b.heard;
}

gives_front : {S : Type 0} (view : S → Held) (s t : S) (begins : History) (settings : Settings)
    (taken_first taken : Option (List ℕ)) (lines : List (List ℕ)) → (view s).history ≡ begins
    → (view s).settings ≡ settings → ServesFront (AnswersIn view) (BreaksIn view) s t taken_first taken lines
    → GivesFrontFrom begins (view s).hearers (view t).hearers settings.form taken_first taken lines
gives_front view s t begins settings taken_first taken lines start same p =
    let begun = begun_of (AnswersIn view) (BreaksIn view) (λ a b. BegunBy (view a) (view b)) (λ a. begun_none (view a))
    (λ a b. begun_here (view a) (view b)) (λ a b c. begun_first (view a) (view b) (view c))
    (λ a b. begun_more (view a) (view b)) s t taken_first taken lines p in
    subst (λ k. GivesFrontFrom begins (view s).hearers (view t).hearers k.form taken_first taken lines) same
    (front_given (view s) (view t) begins taken_first taken (p.text ++ p.begun) lines start begun p.written)

pub run_gives_front : {S : Type 0} (view : S → Held) (s t : S) (begins : History) (settings : Settings)
    (left left_new : Option (List ℕ)) (met_end : Bool) (taken_first taken : Option (List ℕ))
    → (view s).history ≡ begins → (view s).settings ≡ settings
    → OfLinesRead left left_new met_end (ServesFront (AnswersIn view) (BreaksIn view) s t taken_first taken)
    → OfLinesRead left left_new met_end
    (GivesFrontFrom begins (view s).hearers (view t).hearers settings.form taken_first taken)
run_gives_front view s t begins settings left left_new met_end taken_first taken start same p =
    of_lines_read_weaker left left_new met_end _ _
    (λ lines served. gives_front view s t begins settings taken_first taken lines start same served) p
