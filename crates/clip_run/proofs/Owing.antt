-- What is owed, and what was given.
use Rattle.std.proofs.Common.{◌≡◌, ℕ, zero, suc, ◌+◌, ◌<◌, ◌≤◌, List, [], ◌∷◌, ◌++◌, length, drop, map, refl, sym, ap}
use Rattle.std.proofs.Common.{ap₂, ◌∙◌, subst, arith, add-one, append_assoc}
use Rattle.std.specs.Prelude.{Option}
use Rattle.clip_stream.specs.Device.{AppendsFront, HandsOver}
use Rattle.clip_stream.proofs.Flows.{front_behind, handed_more, handed_none, none_taken}
use Rattle.std.proofs.lemmas.List.{map-append}
use Rattle.clip_model.specs.Alerts.{Alert}
use Rattle.clip_model.specs.History.{History}
use Rattle.clip_listen.specs.Heard.{Hearer, told_all, HearsFront}
use Rattle.clip_listen.proofs.Hearing.{told_none, told_more, no_front, front_after, front_of_more}
use Rattle.clip_meaning.specs.Article.{ArticleValue}
use Rattle.clip_ledger.specs.Rows.{RowValue}
use Rattle.clip_protocol.specs.LineMeaning.{Meaning, Means, after, nothing, refusal, refusal_at, command, purging}
use Rattle.clip_protocol.specs.LineMeaning.{counting, showing, matching}
use Rattle.clip_protocol.specs.Reply.{reply}
use Rattle.clip_stream.specs.declared.form.Form.{Form}
use Rattle.clip_front.specs.Steps.Taking.{IsQuiet, TakesQuietly}
use Rattle.clip_front.specs.Outcome.{Outcome, nothing_given, followed_by, given, names_in, kept_rows}
use Rattle.clip_protocol.specs.Steps.Outline.{outline}
use Rattle.clip_front.proofs.Delivering.{none_posted}
use Rattle.clip_protocol.proofs.Meanings.{means_from}
use Rattle.clip_front.proofs.OneOutcome.{outline_some}
use Rattle.clip_front.proofs.Outcomes.{followed_assoc, followed_nothing, kept_append, given_kept}
use Rattle.clip_front.specs.declared.settings.Settings.{Settings}
use Rattle.clip_run.specs.Crews.{CrewIs, course}
use Rattle.clip_run.specs.Pending.{owed_by, owed_at}
use Rattle.clip_run.specs.declared.batch.Pending.{Pending}
use Rattle.clip_run.specs.Owed.{Owed, ready, matched, owed_of, owes, Course, Gave, Pays, Turns, BreaksOff, HearsOwed}
use Rattle.clip_run.specs.Owed.{PaysInto, StopsPaying, with_owed}

-- ---- what was heard changes nothing that is owed

owed_kept : (front : List Alert) (hearers : List Hearer) (o : Owed) → owed_of (told_all front hearers) o
    ≡ owed_of hearers o
owed_kept front hearers (ready text) = refl
owed_kept front hearers (matched n h articles) = given_kept front hearers n h (matching articles)

pub owes_kept : (front : List Alert) (hearers : List Hearer) (owed : List Owed) → owes (told_all front hearers) owed
    ≡ owes hearers owed
owes_kept front hearers [] = refl
owes_kept front hearers (o ∷ owed) = ap₂ followed_by (owed_kept front hearers o) (owes_kept front hearers owed)

-- what is owed by the listeners before, and by those that heard this
pub owes_told : (front : List Alert) (old new : List Hearer) (owed : List Owed) → new ≡ told_all front old
    → owes new owed ≡ owes old owed
owes_told front old new owed e = ap (λ hs. owes hs owed) e ∙ owes_kept front old owed

-- ---- lists

pub owes_append : (hearers : List Hearer) (xs ys : List Owed)
    → owes hearers (xs ++ ys) ≡ followed_by (owes hearers xs) (owes hearers ys)
owes_append hearers [] ys = refl
owes_append hearers (x ∷ xs) ys = ap (followed_by (owed_of hearers x)) (owes_append hearers xs ys)
    ∙ sym (followed_assoc (owed_of hearers x) (owes hearers xs) (owes hearers ys))

pub owes_last : (hearers : List Hearer) (xs : List Owed) (o : Owed)
    → owes hearers (xs ++ o ∷ []) ≡ followed_by (owes hearers xs) (owed_of hearers o)
owes_last hearers xs o = owes_append hearers xs (o ∷ [])
    ∙ ap (followed_by (owes hearers xs)) (followed_nothing (owed_of hearers o))

-- ---- what was given

pub gave_nothing : (s : Course) → Gave s s nothing_given
gave_nothing s = record {
  heard = sym (told_none s.hearers);
  rows =
      none_posted s.settings.keeps_rows s.rows;
  settings = refl;
}

pub gave_more : (s t u : Course) (a b : Outcome) → Gave s t a → Gave t u b → Gave s u (followed_by a b)
gave_more s t u a b first more = record {
  heard = more.heard ∙ ap (told_all b.alerts) first.heard ∙ told_more a.alerts b.alerts s.hearers;
  rows =
      more.rows ∙ ap₂ (λ xs k. xs ++ kept_rows k.keeps_rows b.rows) first.rows first.settings
      ∙ append_assoc s.rows (kept_rows s.settings.keeps_rows a.rows) (kept_rows s.settings.keeps_rows b.rows)
      ∙ ap (λ xs. s.rows ++ xs) (kept_append s.settings.keeps_rows a.rows b.rows);
  settings = more.settings ∙ first.settings;
}

-- ---- payments

-- the same settings, the same text
printed_before : {k l : Settings} (text_in : Form → List ℕ) {text : List ℕ} → l ≡ k → text_in l.form ≡ text
    → text_in k.form ≡ text
printed_before text_in same printed = ap (λ k. text_in k.form) (sym same) ∙ printed

pub pays_nothing : (s : Course) → Pays s s []
pays_nothing s = record { out = nothing_given; gave = gave_nothing s; printed = refl; history = refl; rest = refl }

pub pays_more : (s t u : Course) (a b : List ℕ) → Pays s t a → Pays t u b → Pays s u (a ++ b)
pays_more s t u a b p q = record {
  out = followed_by p.out q.out;
  gave = gave_more s t u p.out q.out p.gave q.gave;
  printed = ap₂ (λ x y. x ++ y) p.printed (printed_before q.out.text p.gave.settings q.printed);
  history = q.history ∙ p.history;
  rest =
      let there : owes s.hearers t.owed ≡ followed_by q.out (owes s.hearers u.owed) =
      sym (owes_told p.out.alerts s.hearers t.hearers t.owed p.gave.heard) ∙ q.rest
      ∙ ap (followed_by q.out) (owes_told p.out.alerts s.hearers t.hearers u.owed p.gave.heard) in
      p.rest ∙ ap (followed_by p.out) there ∙ sym (followed_assoc p.out q.out (owes s.hearers u.owed));
}

-- the oldest was given
pub pays_first : (s t : Course) (o : Owed) → s.owed ≡ o ∷ t.owed → Gave s t (owed_of s.hearers o)
    → t.history ≡ s.history → Pays s t ((owed_of s.hearers o).text s.settings.form)
pays_first s t o first gave same =
    record { out = owed_of s.hearers o; gave = gave; printed = refl; history = same; rest = ap (owes s.hearers) first }

-- ---- lines

-- a line was taken, and what it gives is owed
pub turns_taken : (s t : Course) (n : ℕ) (line : List ℕ) (m : Meaning) (o : Owed)
    → Means (names_in s.hearers) s.history line m → owed_of s.hearers o ≡ given s.hearers n s.history m
    → t ≡ record {
      history = after s.history m;
      hearers = s.hearers;
      rows = s.rows;
      settings = s.settings;
      owed =
          s.owed ++ o ∷ [];
    } → Turns s t n line []
turns_taken s t n line m o means is e = record {
  meaning = m;
  means = means;
  history = ap (λ x. x.history) e;
  out = nothing_given;
  gave = record {
    heard = ap (λ x. x.hearers) e ∙ sym (told_none s.hearers);
    rows =
        ap (λ x. x.rows) e ∙ none_posted s.settings.keeps_rows s.rows;
    settings = ap (λ x. x.settings) e;
  };
  printed = refl;
  rest = ap (followed_by (owes s.hearers s.owed)) (sym is) ∙ sym (owes_last s.hearers s.owed o)
      ∙ ap (λ x. owes s.hearers x.owed) (sym e);
}

pub turns_then : (s t u : Course) (n : ℕ) (line a b : List ℕ) → Turns s t n line a → Pays t u b
    → Turns s u n line (a ++ b)
turns_then s t u n line a b p q = record {
  meaning = p.meaning;
  means = p.means;
  history = q.history ∙ p.history;
  out = followed_by p.out q.out;
  gave = gave_more s t u p.out q.out p.gave q.gave;
  printed = ap₂ (λ x y. x ++ y) p.printed (printed_before q.out.text p.gave.settings q.printed);
  rest =
      let there : owes s.hearers t.owed ≡ followed_by q.out (owes s.hearers u.owed) =
      sym (owes_told p.out.alerts s.hearers t.hearers t.owed p.gave.heard) ∙ q.rest
      ∙ ap (followed_by q.out) (owes_told p.out.alerts s.hearers t.hearers u.owed p.gave.heard) in
      p.rest ∙ ap (followed_by p.out) there ∙ sym (followed_assoc p.out q.out (owes s.hearers u.owed));
}

-- ---- where a run is broken off

-- nothing was given
pub hears_none : (s t : Course) → t.hearers ≡ s.hearers → HearsOwed s t []
hears_none s t e = record {
  heard = subst (λ hs. HearsFront (owes s.hearers s.owed).alerts s.hearers hs) (sym e)
      (no_front (owes s.hearers s.owed).alerts s.hearers);
  more = (owes s.hearers s.owed).text s.settings.form;
  printed = refl;
}

-- whatever is owed now, of what was owed a front was given
pub hears_after : (s t u : Course) (a b : List ℕ) → Pays s t a → HearsOwed t u b → HearsOwed s u (a ++ b)
hears_after s t u a b p front =
    let same : owes t.hearers t.owed ≡ owes s.hearers t.owed =
    owes_told p.out.alerts s.hearers t.hearers t.owed p.gave.heard in
    let later = ap (λ o. o.text s.settings.form) (sym same)
    ∙ ap (λ k. (owes t.hearers t.owed).text k.form) (sym p.gave.settings) ∙ front.printed in
    record {
      heard = subst (λ o. HearsFront o.alerts s.hearers u.hearers) (sym p.rest)
          (front_after p.out.alerts (owes s.hearers t.owed).alerts s.hearers t.hearers u.hearers p.gave.heard
          (subst (λ o. HearsFront o.alerts t.hearers u.hearers) same front.heard));
      more = front.more;
      printed = ap (λ o. o.text s.settings.form) p.rest ∙ ap₂ (λ x y. x ++ y) p.printed later
          ∙ sym (append_assoc a b front.more);
    }

-- the line means something, whatever it is
pub breaks_owed : (s t : Course) (n : ℕ) (line text : List ℕ) → HearsOwed s t text → BreaksOff s t n line text
breaks_owed s t n line text front =
    let m = outline_some (names_in s.hearers) s.history (outline line) in
    let now = given s.hearers n s.history m.0 in
    record {
      meaning = m.0;
      means = means_from (names_in s.hearers) s.history line m.0 m.1;
      heard = front_of_more (owes s.hearers s.owed).alerts now.alerts s.hearers t.hearers front.heard;
      more = front.more ++ now.text s.settings.form;
      printed = ap (λ x. x ++ now.text s.settings.form) front.printed
          ∙ append_assoc text front.more (now.text s.settings.form);
    }

-- the line was taken before
pub breaks_turned : (s t u : Course) (n : ℕ) (line a b : List ℕ) → Turns s t n line a → HearsOwed t u b
    → BreaksOff s u n line (a ++ b)
breaks_turned s t u n line a b p front =
    let same : owes t.hearers t.owed ≡ owes s.hearers t.owed =
    owes_told p.out.alerts s.hearers t.hearers t.owed p.gave.heard in
    let later = ap (λ o. o.text s.settings.form) (sym same)
    ∙ ap (λ k. (owes t.hearers t.owed).text k.form) (sym p.gave.settings) ∙ front.printed in
    record {
      meaning = p.meaning;
      means = p.means;
      heard = subst (λ o. HearsFront o.alerts s.hearers u.hearers) (sym p.rest)
          (front_after p.out.alerts (owes s.hearers t.owed).alerts s.hearers t.hearers u.hearers p.gave.heard
          (subst (λ o. HearsFront o.alerts t.hearers u.hearers) same front.heard));
      more = front.more;
      printed = ap (λ o. o.text s.settings.form) p.rest ∙ ap₂ (λ x y. x ++ y) p.printed later
          ∙ sym (append_assoc a b front.more);
    }

-- ---- texts that are put into a flow

pub pays_into_none : (s : Course) (taken : Option (List ℕ)) (gathered : List ℕ)
    → PaysInto s s taken gathered taken gathered
pays_into_none s taken gathered = record { text = []; pays = pays_nothing s; handed = handed_none taken gathered }

pub pays_into_more : (s t u : Course) (a b c : Option (List ℕ)) (x y z : List ℕ) → PaysInto s t a x b y
    → PaysInto t u b y c z → PaysInto s u a x c z
pays_into_more s t u a b c x y z p q =
    record {
      text = p.text ++ q.text;
      pays = pays_more s t u p.text q.text p.pays q.pays;
      handed =
          handed_more a b c x y z p.text q.text p.handed q.handed;
    }

-- nothing of what is owed was given
pub stops_none : (s t : Course) (taken : Option (List ℕ)) (gathered : List ℕ) → HearsOwed s t []
    → StopsPaying s t taken gathered taken
stops_none s t taken gathered front = record { text = []; broken = front; written = none_taken taken (gathered ++ []) }

-- it was broken off behind what was given
pub stops_more : (s t u : Course) (a b c : Option (List ℕ)) (x y : List ℕ) → PaysInto s t a x b y
    → StopsPaying t u b y c → StopsPaying s u a x c
stops_more s t u a b c x y p q = record {
  text = p.text ++ q.text;
  broken = hears_after s t u p.text q.text p.pays q.broken;
  written = front_behind a b c x y p.text q.text p.handed q.written;
}

-- ---- a line

quiet_told : (text : List ℕ) (hearers : List Hearer) (n : ℕ) (h : History) (m : Meaning) → IsQuiet m
    → ((form : Form) → text ≡ reply form hearers n h m) → owed_of hearers (ready text) ≡ given hearers n h m
quiet_told text hearers n h nothing q e = λ i. record { text = λ form. e form i; alerts = []; rows = [] }
quiet_told text hearers n h (refusal r) q e = λ i. record { text = λ form. e form i; alerts = []; rows = [] }
quiet_told text hearers n h (refusal_at r k) q e = λ i. record { text = λ form. e form i; alerts = []; rows = [] }
quiet_told text hearers n h (command c) q e = λ i. record { text = λ form. e form i; alerts = []; rows = [] }
quiet_told text hearers n h purging q e = λ i. record { text = λ form. e form i; alerts = []; rows = [] }
quiet_told text hearers n h counting q e = λ i. record { text = λ form. e form i; alerts = []; rows = [] }
quiet_told text hearers n h (showing id) q e = λ i. record { text = λ form. e form i; alerts = []; rows = [] }
quiet_told text hearers n h (matching articles) q e = absurd q

-- a line that tells no alert
pub turns_quiet : (s t : Course) (n : ℕ) (line text : List ℕ)
    → TakesQuietly (names_in s.hearers) s.history t.history n line text
    → t ≡ record {
      history = t.history;
      hearers = s.hearers;
      rows = s.rows;
      settings = s.settings;
      owed =
          s.owed ++ ready text ∷ [];
    } → Turns s t n line []
turns_quiet s t n line text takes is =
    turns_taken s t n line takes.meaning (ready text) takes.means
    (quiet_told text s.hearers n s.history takes.meaning takes.quiet (λ form. takes.replies form s.hearers))
    (is ∙ ap (λ h. record {
      history = h;
      hearers = s.hearers;
      rows = s.rows;
      settings = s.settings;
      owed =
          s.owed ++ ready text ∷ [];
    }) takes.history)

-- a line whose articles wait
pub turns_waiting : (s t : Course) (n : ℕ) (line : List ℕ) (articles : List ArticleValue)
    → Means (names_in s.hearers) s.history line (matching articles)
    → t ≡ with_owed s (s.owed ++ matched n s.history articles ∷ []) → Turns s t n line []
turns_waiting s t n line articles means is =
    turns_taken s t n line (matching articles) (matched n s.history articles) means refl is

-- the line was taken, and more was paid
pub turns_paid : (s t u : Course) (n : ℕ) (line b : List ℕ) → Turns s t n line [] → Pays t u b → Turns s u n line b
turns_paid s t u n line b p q = turns_then s t u n line [] b p q

-- ---- what is pending

-- a course by what is pending
abbrev pub course_by : History → List Hearer → List RowValue → Settings → List Pending → Course
course_by h hearers rows settings items =
    record { history = h; hearers = hearers; rows = rows; settings = settings; owed = map owed_by items }

pub owed_last : (xs ys : List Pending) (item : Pending) → ys ≡ xs ++ item ∷ []
    → map owed_by ys ≡ map owed_by xs ++ owed_by item ∷ []
owed_last xs ys item e = ap (map owed_by) e ∙ map-append owed_by xs (item ∷ [])

-- the line's text is pending
pub turns_ready : (h new : History) (hearers : List Hearer) (rows : List RowValue) (settings : Settings)
    (xs ys : List Pending) (item : Pending) (n : ℕ) (line text : List ℕ)
    → TakesQuietly (names_in hearers) h new n line text → ys ≡ xs ++ item ∷ [] → owed_by item ≡ ready text
    → Turns (course_by h hearers rows settings xs) (course_by new hearers rows settings ys) n line []
turns_ready h new hearers rows settings xs ys item n line text takes e is =
    turns_quiet (course_by h hearers rows settings xs) (course_by new hearers rows settings ys) n line text takes
    (ap (λ os. record { history = new; hearers = hearers; rows = rows; settings = settings; owed = os })
    (owed_last xs ys item e ∙ ap (λ o. map owed_by xs ++ o ∷ []) is))

-- the line's articles are pending
pub turns_begun : (h new : History) (hearers : List Hearer) (rows : List RowValue) (settings : Settings)
    (owed : List Owed) (t : Course) (n : ℕ) (line : List ℕ) (articles : List ArticleValue)
    → Means (names_in hearers) h line (matching articles) → new ≡ h
    → t ≡ record {
      history = new;
      hearers = hearers;
      rows = rows;
      settings = settings;
      owed =
          owed ++ matched n new articles ∷ [];
    }
    → Turns (record { history = h; hearers = hearers; rows = rows; settings = settings; owed = owed }) t n line []
turns_begun h new hearers rows settings owed t n line articles means same is =
    turns_waiting (record { history = h; hearers = hearers; rows = rows; settings = settings; owed = owed }) t n line
    articles means
    (is ∙ ap (λ g. record {
      history = g;
      hearers = hearers;
      rows = rows;
      settings = settings;
      owed =
          owed ++ matched n g articles ∷ [];
    }) same)

-- ---- lines that are settled, one after the other

owed_more : (items : List Pending) (line : ℕ) → line < length items → map owed_by (drop line items)
    ≡ owed_at items line ∷ map owed_by (drop (suc line) items)
owed_more [] line l = absurd (omega (arith, l))
owed_more (x ∷ xs) zero l = refl
owed_more (x ∷ xs) (suc line) l = owed_more xs line (omega (arith, l))

-- an item of a list, and the rest of it
pub owed_next : (items : List Pending) (line : ℕ) → line < length items → map owed_by (drop line items)
    ≡ owed_at items line ∷ map owed_by (drop (line + 1) items)
owed_next items line l =
    owed_more items line l ∙ ap (λ n. owed_at items line ∷ map owed_by (drop n items)) (sym (add-one line))

-- the line was settled
pub pays_line : (s t : CrewIs) (hearers now : List Hearer) (items : List Pending) (line : ℕ) → line < length items
    → now ≡ told_all (owed_of hearers (owed_at items line)).alerts hearers
    → t ≡ record s { rows = s.rows ++ kept_rows s.settings.keeps_rows (owed_of hearers (owed_at items line)).rows }
    → Pays (with_owed (course s hearers) (map owed_by (drop line items)))
    (with_owed (course t now) (map owed_by (drop (line + 1) items)))
    ((owed_of hearers (owed_at items line)).text s.settings.form)
pays_line s t hearers now items line within heard same =
    pays_first (with_owed (course s hearers) (map owed_by (drop line items)))
    (with_owed (course t now) (map owed_by (drop (line + 1) items))) (owed_at items line)
    (owed_next items line within) (record {
      heard = heard;
      rows = ap (λ crew. crew.rows) same;
      settings =
          ap (λ crew. crew.settings) same;
    }) (ap (λ crew. crew.history) same)

-- and its text put
pub pays_into_line : (s t : CrewIs) (hearers now : List Hearer) (items : List Pending) (line : ℕ)
    (taken taken_new : Option (List ℕ)) (gathered gathered_new : List ℕ) → line < length items
    → now ≡ told_all (owed_of hearers (owed_at items line)).alerts hearers
    → t ≡ record s { rows = s.rows ++ kept_rows s.settings.keeps_rows (owed_of hearers (owed_at items line)).rows }
    → HandsOver taken (gathered ++ (owed_of hearers (owed_at items line)).text s.settings.form) taken_new gathered_new
    → PaysInto (with_owed (course s hearers) (map owed_by (drop line items)))
    (with_owed (course t now) (map owed_by (drop (line + 1) items))) taken gathered taken_new gathered_new
pays_into_line s t hearers now items line taken taken_new gathered gathered_new within heard same handed = record {
  text = (owed_of hearers (owed_at items line)).text s.settings.form;
  pays = pays_line s t hearers now items line within heard same;
  handed = handed;
}

-- of the line that is settled a front was heard
hears_line : (s t : Course) (items : List Pending) (line : ℕ) → line < length items
    → HearsFront (owed_of s.hearers (owed_at items line)).alerts s.hearers t.hearers
    → HearsOwed (with_owed s (map owed_by (drop line items))) t
    ((owed_of s.hearers (owed_at items line)).text s.settings.form)
hears_line s t items line within front =
    let o = owed_at items line in
    let rest = map owed_by (drop (line + 1) items) in
    let first = owed_next items line within in
    record {
      heard = subst (λ os. HearsFront (owes s.hearers os).alerts s.hearers t.hearers) (sym first)
          (front_of_more (owed_of s.hearers o).alerts (owes s.hearers rest).alerts s.hearers t.hearers front);
      more = (owes s.hearers rest).text s.settings.form;
      printed = ap (λ os. (owes s.hearers os).text s.settings.form) first;
    }

-- and of its text a front was written
pub stops_line : (s t : Course) (items : List Pending) (line : ℕ) (taken taken_new : Option (List ℕ))
    (gathered : List ℕ) → line < length items
    → HearsFront (owed_of s.hearers (owed_at items line)).alerts s.hearers t.hearers
    → AppendsFront taken taken_new (gathered ++ (owed_of s.hearers (owed_at items line)).text s.settings.form)
    → StopsPaying (with_owed s (map owed_by (drop line items))) t taken gathered taken_new
stops_line s t items line taken taken_new gathered within front written =
    record {
      text = (owed_of s.hearers (owed_at items line)).text s.settings.form;
      broken =
          hears_line s t items line within front;
      written = written;
    }

-- ---- a line that is settled

pub owed_past : (items : List Pending) (line : ℕ) → length items ≤ line → owed_at items line ≡ ready []
owed_past [] line l = refl
owed_past (x ∷ xs) zero l = absurd (omega (arith, l))
owed_past (x ∷ xs) (suc line) l = owed_past xs line (omega (arith, l))

-- a text tells nobody
pub heard_none : (hearers : List Hearer) (o : Owed) (text : List ℕ) → o ≡ ready text
    → hearers ≡ told_all (owed_of hearers o).alerts hearers
heard_none hearers o text is =
    subst (λ p. hearers ≡ told_all (owed_of hearers p).alerts hearers) (sym is) (sym (told_none hearers))

-- and keeps no row
pub kept_none : (crew : CrewIs) (hearers : List Hearer) (o : Owed) (text : List ℕ) → o ≡ ready text
    → crew ≡ record crew { rows = crew.rows ++ kept_rows crew.settings.keeps_rows (owed_of hearers o).rows }
kept_none crew hearers o text is =
    subst (λ p. crew ≡ record crew { rows = crew.rows ++ kept_rows crew.settings.keeps_rows (owed_of hearers p).rows })
    (sym is) (ap (λ rows. record crew { rows = rows }) (none_posted crew.settings.keeps_rows crew.rows))

-- nor has it more text
pub handed_ready : (hearers : List Hearer) (o : Owed) (text : List ℕ) (form : Form) (old new : Option (List ℕ))
    (gathered left : List ℕ) → o ≡ ready text → HandsOver old (gathered ++ text) new left
    → HandsOver old (gathered ++ (owed_of hearers o).text form) new left
handed_ready hearers o text form old new gathered left is handed =
    subst (λ p. HandsOver old (gathered ++ (owed_of hearers p).text form) new left) (sym is) handed

pub front_ready : (hearers : List Hearer) (o : Owed) (text : List ℕ) (form : Form) (old new : Option (List ℕ))
    (gathered : List ℕ) → o ≡ ready text → AppendsFront old new (gathered ++ text)
    → AppendsFront old new (gathered ++ (owed_of hearers o).text form)
front_ready hearers o text form old new gathered is front =
    subst (λ p. AppendsFront old new (gathered ++ (owed_of hearers p).text form)) (sym is) front
