-- What a run gives that may owe answers meanwhile: just what its lines give.
use Rattle.std.proofs.Common.{◌≡◌, ℕ, suc, List, [], ◌∷◌, ◌++◌, Bool, Option, refl, sym, ap, ap₂, ◌∙◌, subst}
use Rattle.std.proofs.Common.{append_assoc}
use Rattle.std.specs.Io.KnownBytes.{Appends}
use Rattle.clip_stream.specs.Device.{AppendsFront}
use Rattle.clip_stream.specs.Lines.{lines_of, OfInput, OfLinesRead}
use Rattle.clip_stream.proofs.Flows.{front_longer}
use Rattle.clip_stream.proofs.LinesRead.{of_input_weaker, of_lines_read_weaker}
use Rattle.clip_stream.specs.Steps.Reading.{cut}
use Rattle.clip_listen.specs.Heard.{told_all, HearsFront}
use Rattle.clip_listen.proofs.Hearing.{no_front, front_after, front_of_more}
use Rattle.clip_front.specs.Outcome.{Outcome, nothing_given, followed_by, given, kept_rows, Gives}
use Rattle.clip_front.specs.Outcome.{GivesAllFrom, GivesFrontFrom, GivesLinesFrom}
use Rattle.clip_front.specs.Steps.Serving.{Serves, ServesAll, ServesFront, ServesLines}
use Rattle.clip_front.proofs.Begun.{begun_of}
use Rattle.clip_front.proofs.Outcomes.{followed_assoc, followed_nothing}
use Rattle.clip_front.proofs.OneOutcome.{gives_on}
use Rattle.clip_front.proofs.Served.{gives_first, gives_one}
use Rattle.clip_front.specs.declared.settings.Settings.{Settings}
use Rattle.clip_run.specs.Owed.{owes, Course, Gave, Turns, BreaksOff, TurnsIn, BreaksIn}
use Rattle.clip_run.proofs.Owing.{owes_told, gave_nothing, gave_more}

-- ---- one line and those after it

gives_now : (s t : Course) (n : ℕ) (line text : List ℕ) (lines : List (List ℕ)) (rest : Outcome)
    (a : Turns s t n (cut line) text) → Gives t.hearers (suc n) t.history lines rest
    → Gives s.hearers n s.history (line ∷ lines) (followed_by (given s.hearers n s.history a.meaning) rest)
gives_now s t n line text lines rest a gives =
    gives_first s.hearers n s.history line lines a.meaning a.out.alerts rest a.means
    (subst (λ h. Gives (told_all a.out.alerts s.hearers) (suc n) h lines rest) a.history
    (subst (λ hs. Gives hs (suc n) t.history lines rest) a.gave.heard gives))

-- what was owed and what all lines give, by what the line gave and what is owed then
rest_first : (s t : Course) (n : ℕ) (line text : List ℕ) (a : Turns s t n line text) (rest : Outcome)
    → followed_by (owes s.hearers s.owed) (followed_by (given s.hearers n s.history a.meaning) rest)
    ≡ followed_by a.out (followed_by (owes t.hearers t.owed) rest)
rest_first s t n line text a rest =
    sym (followed_assoc (owes s.hearers s.owed) (given s.hearers n s.history a.meaning) rest)
    ∙ ap (λ x. followed_by x rest) a.rest
    ∙ followed_assoc a.out (owes s.hearers t.owed) rest
    ∙ ap (λ x. followed_by a.out (followed_by x rest))
    (sym (owes_told a.out.alerts s.hearers t.hearers t.owed a.gave.heard))

-- ---- all lines were taken

-- the lines give this outcome, of which, after what was owed, so much was given
record TakenBy (s t : Course) (n : ℕ) (lines : List (List ℕ)) (text : List ℕ) : Type 0 where
  outcome : Outcome
  gives : Gives s.hearers n s.history lines outcome
  out : Outcome
  gave : Gave s t out
  printed : out.text s.settings.form ≡ text
  rest : followed_by (owes s.hearers s.owed) outcome ≡ followed_by out (owes t.hearers t.owed)

taken_first : (s t u : Course) (n : ℕ) (line first more text : List ℕ) (lines : List (List ℕ))
    → Turns s t n (cut line) first → text ≡ first ++ more → TakenBy t u (suc n) lines more
    → TakenBy s u n (line ∷ lines) text
taken_first s t u n line first more text lines a e later = record {
  outcome = followed_by (given s.hearers n s.history a.meaning) later.outcome;
  gives = gives_now s t n line first lines later.outcome a later.gives;
  out = followed_by a.out later.out;
  gave = gave_more s t u a.out later.out a.gave later.gave;
  printed = ap₂ (λ x y. x ++ y) a.printed (ap (λ k. later.out.text k.form) (sym a.gave.settings) ∙ later.printed)
      ∙ sym e;
  rest = rest_first s t n (cut line) first a later.outcome ∙ ap (followed_by a.out) later.rest
      ∙ sym (followed_assoc a.out later.out (owes u.hearers u.owed));
}

taken_by : {S : Type 0} (view : S → Course) (s t : S) (n : ℕ) (lines : List (List ℕ)) (text : List ℕ)
    → Serves (TurnsIn view) s t n lines text → TakenBy (view s) (view t) n lines text
taken_by view s t n [] text p =
    let same : view s ≡ view t = sym (ap view p.0) in
    record {
      outcome = nothing_given;
      gives = refl;
      out = nothing_given;
      gave = subst (λ x. Gave (view s) x nothing_given) same (gave_nothing (view s));
      printed = sym p.1;
      rest = followed_nothing (owes (view s).hearers (view s).owed) ∙ ap (λ x. owes x.hearers x.owed) same;
    }
taken_by view s t n (line ∷ lines) text p =
    taken_first (view s) (view p.0) (view t) n line p.1 p.2 text lines p.3 p.4
    (taken_by view p.0 t (suc n) lines p.2 p.5)

-- where nothing was owed, and nothing is, what was given is what the lines give
settled : (s t : Course) (out outcome : Outcome) → s.owed ≡ [] → t.owed ≡ []
    → followed_by (owes s.hearers s.owed) outcome ≡ followed_by out (owes t.hearers t.owed) → out ≡ outcome
settled s t out outcome none_before none e =
    sym (followed_nothing out) ∙ ap (λ os. followed_by out (owes t.hearers os)) (sym none) ∙ sym e
    ∙ ap (λ os. followed_by (owes s.hearers os) outcome) none_before

gives_all : {S : Type 0} (view : S → Course) (s t : S) (settings : Settings) (taken_old taken : Option (List ℕ))
    (count : ℕ) (input : List ℕ) → (view s).rows ≡ [] → (view s).settings ≡ settings → (view s).owed ≡ []
    → (view t).owed ≡ []
    → ServesAll (TurnsIn view) s t taken_old taken count input
    → GivesAllFrom (view s).history (view s).hearers (view t).hearers settings taken_old taken count (view t).rows input
gives_all view s t settings taken_old taken count input no_rows same none_before none p =
    let g = taken_by view s t 1 (lines_of input) p.text p.served in
    let whole = settled (view s) (view t) g.out g.outcome none_before none g.rest in
    record {
      outcome = g.outcome;
      is = g.gives;
      replies = subst (Appends taken_old taken) (sym g.printed ∙ ap (λ k. g.out.text k.form) same
          ∙ ap (λ o. o.text settings.form) whole) p.written;
      told = g.gave.heard ∙ ap (λ o. told_all o.alerts (view s).hearers) whole;
      rows = g.gave.rows ∙ ap₂ (λ xs k. xs ++ kept_rows k.keeps_rows g.out.rows) no_rows same
          ∙ ap (λ o. kept_rows settings.keeps_rows o.rows) whole;
      counted = p.counted;
    }

pub run_gives : {S : Type 0} (view : S → Course) (s t : S) (settings : Settings)
    (left taken_old taken : Option (List ℕ)) (count : ℕ) → (view s).rows ≡ [] → (view s).settings ≡ settings
    → (view s).owed ≡ [] → (view t).owed ≡ []
    → OfInput left (ServesAll (TurnsIn view) s t taken_old taken count)
    → OfInput left
    (GivesAllFrom (view s).history (view s).hearers (view t).hearers settings taken_old taken count (view t).rows)
run_gives view s t settings left taken_old taken count no_rows same none_before none p =
    of_input_weaker left _ _
    (λ input served. gives_all view s t settings taken_old taken count input no_rows same none_before none served) p

gives_lines : {S : Type 0} (view : S → Course) (s t : S) (settings : Settings) (taken_old taken : Option (List ℕ))
    (lines : List (List ℕ)) → (view s).settings ≡ settings → (view s).owed ≡ [] → (view t).owed ≡ []
    → ServesLines (TurnsIn view) s t taken_old taken lines
    → GivesLinesFrom (view s).history (view s).hearers (view t).hearers settings.form taken_old taken lines
gives_lines view s t settings taken_old taken lines same none_before none p =
    let g = taken_by view s t 1 lines p.text p.served in
    let whole = settled (view s) (view t) g.out g.outcome none_before none g.rest in
    record {
      outcome = g.outcome;
      gives = g.gives;
      replies = subst (Appends taken_old taken) (sym g.printed ∙ ap (λ k. g.out.text k.form) same
          ∙ ap (λ o. o.text settings.form) whole) p.written;
      told = g.gave.heard ∙ ap (λ o. told_all o.alerts (view s).hearers) whole;
    }

pub run_gives_lines : {S : Type 0} (view : S → Course) (s t : S) (settings : Settings)
    (left left_new : Option (List ℕ)) (met_end : Bool) (taken_old taken : Option (List ℕ))
    → (view s).settings ≡ settings → (view s).owed ≡ [] → (view t).owed ≡ []
    → OfLinesRead left left_new met_end (ServesLines (TurnsIn view) s t taken_old taken)
    → OfLinesRead left left_new met_end
    (GivesLinesFrom (view s).history (view s).hearers (view t).hearers settings.form taken_old taken)
run_gives_lines view s t settings left left_new met_end taken_old taken same none_before none p =
    of_lines_read_weaker left left_new met_end _ _
    (λ lines served. gives_lines view s t settings taken_old taken lines same none_before none served) p

-- ---- some first lines were taken, and the next was begun at most

-- the outcome of these lines, of whose text, after what was owed, the front was given
record BegunBy (s t : Course) (n : ℕ) (lines : List (List ℕ)) (text : List ℕ) : Type 0 where
  outcome : Outcome
  gives : Gives s.hearers n s.history lines outcome
  more : List ℕ
  printed : (followed_by (owes s.hearers s.owed) outcome).text s.settings.form ≡ text ++ more
  heard : HearsFront (followed_by (owes s.hearers s.owed) outcome).alerts s.hearers t.hearers

begun_none : (s : Course) (n : ℕ) → BegunBy s s n [] []
begun_none s n = record {
  outcome = nothing_given;
  gives = refl;
  more = (followed_by (owes s.hearers s.owed) nothing_given).text s.settings.form;
  printed = refl;
  heard = no_front (followed_by (owes s.hearers s.owed) nothing_given).alerts s.hearers;
}

begun_here : (s t : Course) (n : ℕ) (line text : List ℕ) → BreaksOff s t n (cut line) text
    → BegunBy s t n (line ∷ []) text
begun_here s t n line text b = record {
  outcome = given s.hearers n s.history b.meaning;
  gives = gives_one s.hearers n s.history line b.meaning b.means;
  more = b.more;
  printed = b.printed;
  heard = b.heard;
}

begun_first : (s t u : Course) (n : ℕ) (line first rest text : List ℕ) (lines : List (List ℕ))
    → Turns s t n (cut line) first → text ≡ first ++ rest → BegunBy t u (suc n) lines rest
    → BegunBy s u n (line ∷ lines) text
begun_first s t u n line first rest text lines a e later =
    let now = given s.hearers n s.history a.meaning in
    let all = rest_first s t n (cut line) first a later.outcome in
    record {
      outcome = followed_by now later.outcome;
      gives = gives_now s t n line first lines later.outcome a later.gives;
      more = later.more;
      printed = ap (λ o. o.text s.settings.form) all
          ∙ ap₂ (λ x y. x ++ y) a.printed
          (ap (λ k. (followed_by (owes t.hearers t.owed) later.outcome).text k.form) (sym a.gave.settings)
          ∙ later.printed) ∙ sym (append_assoc first rest later.more) ∙ ap (λ x. x ++ later.more) (sym e);
      heard = subst (λ o. HearsFront o.alerts s.hearers u.hearers) (sym all)
          (front_after a.out.alerts (followed_by (owes t.hearers t.owed) later.outcome).alerts s.hearers t.hearers
          u.hearers a.gave.heard later.heard);
    }

-- lines that were not begun
begun_more : (s t : Course) (n : ℕ) (lines later : List (List ℕ)) (text : List ℕ) → BegunBy s t n lines text
    → BegunBy s t n (lines ++ later) text
begun_more s t n lines later text b =
    let on = gives_on s.hearers n s.history lines later b.outcome b.gives in
    let owed = owes s.hearers s.owed in
    let all : followed_by owed (followed_by b.outcome on.0) ≡ followed_by (followed_by owed b.outcome) on.0 =
    sym (followed_assoc owed b.outcome on.0) in
    record {
      outcome = followed_by b.outcome on.0;
      gives = on.1;
      more = b.more ++ on.0.text s.settings.form;
      printed = ap (λ o. o.text s.settings.form) all ∙ ap (λ x. x ++ on.0.text s.settings.form) b.printed
          ∙ append_assoc text b.more (on.0.text s.settings.form);
      heard = subst (λ o. HearsFront o.alerts s.hearers t.hearers) (sym all)
          (front_of_more (followed_by owed b.outcome).alerts on.0.alerts s.hearers t.hearers b.heard);
    }

front_given : (s t : Course) (taken_old taken : Option (List ℕ)) (text : List ℕ) (lines : List (List ℕ))
    → s.owed ≡ [] → BegunBy s t 1 lines text → AppendsFront taken_old taken text
    → GivesFrontFrom s.history s.hearers t.hearers s.settings.form taken_old taken lines
front_given s t taken_old taken text lines none b written =
    let whole : followed_by (owes s.hearers s.owed) b.outcome ≡ b.outcome =
    ap (λ os. followed_by (owes s.hearers os) b.outcome) none in
    record {
      outcome = b.outcome;
      gives = b.gives;
      replies = subst (AppendsFront taken_old taken) (sym b.printed
          ∙ ap (λ o. o.text s.settings.form) whole) (front_longer taken_old taken text b.more written);
      told = subst (λ o. HearsFront o.alerts s.hearers t.hearers) whole b.heard;
    }

gives_front : {S : Type 0} (view : S → Course) (s t : S) (settings : Settings) (taken_old taken : Option (List ℕ))
    (lines : List (List ℕ)) → (view s).settings ≡ settings → (view s).owed ≡ []
    → ServesFront (TurnsIn view) (BreaksIn view) s t taken_old taken lines
    → GivesFrontFrom (view s).history (view s).hearers (view t).hearers settings.form taken_old taken lines
gives_front view s t settings taken_old taken lines same none p =
    let begun = begun_of (TurnsIn view) (BreaksIn view) (λ a b. BegunBy (view a) (view b)) (λ a. begun_none (view a))
    (λ a b. begun_here (view a) (view b)) (λ a b c. begun_first (view a) (view b) (view c))
    (λ a b. begun_more (view a) (view b)) s t taken_old taken lines p in
    subst (λ k. GivesFrontFrom (view s).history (view s).hearers (view t).hearers k.form taken_old taken lines) same
    (front_given (view s) (view t) taken_old taken (p.text ++ p.begun) lines none begun p.written)

pub run_gives_front : {S : Type 0} (view : S → Course) (s t : S) (settings : Settings)
    (left left_new : Option (List ℕ)) (met_end : Bool) (taken_old taken : Option (List ℕ))
    → (view s).settings ≡ settings → (view s).owed ≡ []
    → OfLinesRead left left_new met_end (ServesFront (TurnsIn view) (BreaksIn view) s t taken_old taken)
    → OfLinesRead left left_new met_end
    (GivesFrontFrom (view s).history (view s).hearers (view t).hearers settings.form taken_old taken)
run_gives_front view s t settings left left_new met_end taken_old taken same none p =
    of_lines_read_weaker left left_new met_end _ _
    (λ lines served. gives_front view s t settings taken_old taken lines same none served) p
