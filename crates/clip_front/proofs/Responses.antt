-- What each kind of line leaves.
use Rattle.std.proofs.Common.{◌≡◌, ℕ, List, [], ◌++◌, Bool, true, false, cond, refl, sym, ap, ap₂, ◌∙◌, subst}
use Rattle.std.proofs.Common.{append-nil}
use Rattle.std.specs.Prelude.{Some, None, Result, Ok, Err, IfOk}
use Rattle.clip_model.specs.History.{History, Command, Register, Delete, Clear, has_room}
use Rattle.clip_listen.specs.Heard.{Hearer, told_all, HearsFront}
use Rattle.clip_listen.proofs.Hearing.{told_none, no_front}
use Rattle.clip_ledger.specs.Rows.{RowValue}
use Rattle.clip_meaning.specs.Article.{ArticleValue}
use Rattle.clip_standing.specs.Command.{answer_of}
use Rattle.clip_standing.specs.declared.command.Applied.{Applied}
use Rattle.clip_front.specs.declared.answer.Step.{Step}
use Rattle.clip_front.specs.declared.answer.Step.TheVariants as step
use Rattle.clip_front.specs.declared.books.Books.{Books}
use Rattle.clip_front.specs.declared.settings.Settings.{Settings}
use Rattle.clip_protocol.specs.declared.refusal.Refusal.TheVariants.{Full}
use Rattle.clip_protocol.specs.LineMeaning.{Meaning, Means, nothing, refusal, refusal_at, command, purging, counting}
use Rattle.clip_protocol.specs.LineMeaning.{showing, matching, judged, after}
use Rattle.clip_front.specs.Outcome.{alerts_told, rows_posted, kept_rows, names_in}
use Rattle.clip_protocol.specs.Reply.{Reply, accepted, alerts_of_all, refused, reply, reply_text}
use Rattle.clip_front.specs.Steps.Answers.{Held, held, Replies, Says, Settles, Comes, GoesOn, Answers, Breaks}
use Rattle.clip_protocol.specs.Steps.Outline.{Outline, outline, matches, MeansOutline}
use Rattle.clip_front.specs.Steps.Registry.{IsJudged}
use Rattle.clip_front.specs.Steps.Taking.{IsQuiet, Takes, TakesQuietly}
use Rattle.clip_protocol.specs.Steps.Views.{applied_view}
use Rattle.clip_protocol.proofs.Meanings.{means_from}
use Rattle.clip_front.proofs.OneOutcome.{outline_some}

-- ---- commands

pub judged-room : (h : History) (c : Command) (b : Bool) → has_room h c ≡ b
    → judged h c ≡ cond b (command c) (refusal Full)
judged-room h c b room = ap (λ x. cond x (command c) (refusal Full)) room

applied_view-answer_of : (c : Command) (n : ℕ) → applied_view (answer_of c n) ≡ accepted c n
applied_view-answer_of (Register standings) n = refl
applied_view-answer_of (Delete ids) n = refl
applied_view-answer_of Clear n = refl

replies_as : (old new : History) (m n : Meaning) (r : Reply) → m ≡ n → Replies old new n r → Replies old new m r
replies_as old new m n r same replies = rw same replies

pub replies_accepted : (old new : History) (c : Command) (a : Applied) (r : Reply) → IsJudged old new c (Some a)
    → r ≡ applied_view a → Replies old new (judged old c) r
replies_accepted old new c a r j shows =
    replies_as old new (judged old c) (command c) r (judged-room old c true j.0)
    (record {
      quiet = tt;
      history = j.1;
      reply = λ form hearers. shows ∙ ap applied_view j.2
          ∙ applied_view-answer_of c _;
    })

pub replies_full : (old new : History) (c : Command) → IsJudged old new c None
    → Replies old new (judged old c) (refused Full)
replies_full old new c j =
    replies_as old new (judged old c) (refusal Full) (refused Full) (judged-room old c false j.0) (record {
      quiet =
          tt;
      history = j.1;
      reply = λ form hearers. refl;
    })

-- ---- lines that tell no alert

-- a line that is settled is taken, and the text of its reply is printed
takes_settled : (names : List (List ℕ)) (old new : History) (n : ℕ) (line text : List ℕ) (o : Outline) (r : Reply)
    → outline line ≡ o → Settles names old new o r → text ≡ reply_text n r → TakesQuietly names old new n line text
takes_settled names old new n line text o r said s printed = record {
  meaning = s.0;
  means = means_from names old line s.0 (subst (λ x. MeansOutline names old x s.0) (sym said) s.1);
  quiet = s.2.quiet;
  history = s.2.history;
  replies = λ form hearers. printed ∙ ap (reply_text n) (s.2.reply form hearers);
}

-- a line that lists these articles is taken as they are
takes_matched : (names : List (List ℕ)) (h : History) (line : List ℕ) (o : Outline) (articles : List ArticleValue)
    → outline line ≡ o → o ≡ matches articles → Means names h line (matching articles)
takes_matched names h line o articles said is =
    means_from names h line (matching articles)
    (subst (λ x. MeansOutline names h x (matching articles)) (sym (said ∙ is)) refl)

-- the text of a reply that settles a line is what the line comes to
pub comes_said : {E : Type 0} (names : List (List ℕ)) (old new : History) (n : ℕ) (o : Outline) (r : Reply)
    (result : Result Step E) → Settles names old new o r → IfOk result (Says n r)
    → IfOk result (Comes names old new n o)
comes_said names old new n o r (Ok (step.Reply text)) s says = (r, s, says)
comes_said names old new n o r (Ok (step.Match drafts)) s says = absurd says
comes_said names old new n o r (Err e) s says = tt

-- what the outline of a line comes to, the line comes to
pub takes_come : {E : Type 0} (names : List (List ℕ)) (old new : History) (n : ℕ) (line : List ℕ) (o : Outline)
    (result : Result Step E) → outline line ≡ o → IfOk result (Comes names old new n o)
    → IfOk result (Takes names old new n line)
takes_come names old new n line o (Ok (step.Reply text)) said p =
    takes_settled names old new n line text.items o p.0 said p.1 p.2
takes_come names old new n line o (Ok (step.Match drafts)) said p =
    (takes_matched names old line o drafts.items said p.0, p.1)
takes_come names old new n line o (Err e) said p = tt

quiet_alerts : (h : History) (m : Meaning) → IsQuiet m → alerts_told h m ≡ []
quiet_alerts h nothing q = refl
quiet_alerts h (refusal r) q = refl
quiet_alerts h (refusal_at r k) q = refl
quiet_alerts h (command c) q = refl
quiet_alerts h purging q = refl
quiet_alerts h counting q = refl
quiet_alerts h (showing id) q = refl
quiet_alerts h (matching articles) q = absurd q

quiet_rows : (hearers : List Hearer) (n : ℕ) (h : History) (m : Meaning) → IsQuiet m → rows_posted hearers n h m ≡ []
quiet_rows hearers n h nothing q = refl
quiet_rows hearers n h (refusal r) q = refl
quiet_rows hearers n h (refusal_at r k) q = refl
quiet_rows hearers n h (command c) q = refl
quiet_rows hearers n h purging q = refl
quiet_rows hearers n h counting q = refl
quiet_rows hearers n h (showing id) q = refl
quiet_rows hearers n h (matching articles) q = absurd q

none_kept : (keeps : Bool) → kept_rows keeps [] ≡ []
none_kept true = refl
none_kept false = refl

abbrev pub held_by : Settings → History → List Hearer → List RowValue → Held
held_by settings h hearers rows = record { history = h; hearers = hearers; rows = rows; settings = settings }

-- a line that tells no alert leaves the listeners and the rows as they are
pub answers_quiet : (hearers : List Hearer) (books : Books) (old new : History) (n : ℕ) (line text : List ℕ)
    → TakesQuietly (names_in hearers) old new n line text
    → Answers (held old hearers books) (held new hearers books) n line text
answers_quiet hearers books old new n line text t =
    let told : hearers ≡ told_all (alerts_told old t.meaning) hearers =
    sym (ap (λ xs. told_all xs hearers) (quiet_alerts old t.meaning t.quiet) ∙ told_none hearers) in
    let rows : books.ledger ≡ books.ledger
    ++ kept_rows books.settings.keeps_rows (rows_posted hearers n old t.meaning) =
    sym (ap (λ xs. books.ledger ++ kept_rows books.settings.keeps_rows xs) (quiet_rows hearers n old t.meaning t.quiet)
    ∙ ap (λ xs. books.ledger ++ xs) (none_kept books.settings.keeps_rows) ∙ append-nil books.ledger) in
    record {
      meaning = t.meaning;
      means = t.means;
      goes_on = record {
        leaves = ap (λ h. held_by books.settings h hearers books.ledger) t.history
            ∙ ap₂ (held_by books.settings (after old t.meaning)) told rows;
        replies = t.replies books.settings.form hearers;
      };
    }

-- ---- matches

-- where the registry stood still, so do the lines that it is looked at for
pub answers_matched : (hearers heard : List Hearer) (books new_books : Books) (old taken seen new : History) (n : ℕ)
    (line text : List ℕ) (articles : List ArticleValue) → Means (names_in hearers) old line (matching articles)
    → taken ≡ old → seen ≡ taken → new ≡ taken
    → GoesOn (held seen hearers books) (held seen heard new_books) n (matching articles) text
    → Answers (held old hearers books) (held new heard new_books) n line text
answers_matched hearers heard books new_books old taken seen new n line text articles means still looked same goes =
    let there : seen ≡ old = looked ∙ still in
    let here : new ≡ old = same ∙ still in
    record {
      meaning = matching articles;
      means = means;
      goes_on = subst (λ h. GoesOn (held old hearers books) (held h heard new_books) n (matching articles) text)
          (sym here) (subst (λ h. GoesOn (held h hearers books) (held h heard new_books) n (matching articles) text)
          there goes);
    }

-- ---- lines that were broken off

-- nothing was told, and nothing was on its way
pub breaks_untold : (old new : History) (hearers : List Hearer) (books new_books : Books) (n : ℕ) (line : List ℕ)
    → Breaks (held old hearers books) (held new hearers new_books) n line []
breaks_untold old new hearers books new_books n line =
    let m = outline_some (names_in hearers) old (outline line) in
    record {
      meaning = m.0;
      means = means_from (names_in hearers) old line m.0 m.1;
      heard = no_front _ _;
      more =
          _;
      replies = refl;
    }

pub breaks_matched : (hearers heard : List Hearer) (books new_books : Books) (old taken seen new : History) (n : ℕ)
    (line text more : List ℕ) (articles : List ArticleValue) → Means (names_in hearers) old line (matching articles)
    → taken ≡ old → seen ≡ taken → HearsFront (alerts_of_all seen articles) hearers heard
    → reply books.settings.form hearers n seen (matching articles) ≡ text ++ more
    → Breaks (held old hearers books) (held new heard new_books) n line text
breaks_matched hearers heard books new_books old taken seen new n line text more articles means still looked front
    printed = record {
      meaning = matching articles;
      means = means;
      heard = subst (λ h. HearsFront (alerts_of_all h articles) hearers heard) (looked ∙ still) front;
      more = more;
      replies = subst (λ h. reply books.settings.form hearers n h (matching articles) ≡ text ++ more) (looked
          ∙ still) printed;
    }
