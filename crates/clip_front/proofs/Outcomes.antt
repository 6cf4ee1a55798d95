-- Outcomes of lines, one after the other, and what was heard meanwhile.
use Rattle.std.proofs.Common.{◌≡◌, ℕ, List, [], ◌∷◌, ◌++◌, map, Bool, true, false, refl, ap, ap₂, ◌∙◌, append_assoc}
use Rattle.std.proofs.Common.{append-nil}
use Rattle.std.specs.Prelude.{flat_map}
use Rattle.clip_meaning.specs.Article.{ArticleValue}
use Rattle.clip_model.specs.Alerts.{Alert, alerts}
use Rattle.clip_model.specs.History.{History}
use Rattle.clip_listen.specs.Heard.{Hearer, told_all}
use Rattle.clip_listen.proofs.Hearing.{all_notes_kept}
use Rattle.clip_ledger.specs.Rows.{RowValue, rows_of}
use Rattle.clip_protocol.specs.LineMeaning.{Meaning, nothing, refusal, refusal_at, command, purging, counting, showing}
use Rattle.clip_protocol.specs.LineMeaning.{matching}
use Rattle.clip_stream.specs.declared.form.Form.{Form}
use Rattle.clip_protocol.specs.Reply.{matched, alerts_shown, alerts_of_all, reply_text, texts_said}
use Rattle.clip_front.specs.Outcome.{Outcome, nothing_given, followed_by, given, rows_of_article, kept_rows}

-- ---- one after the other

abbrev outcome_by : (Form → List ℕ) → List Alert → List RowValue → Outcome
outcome_by text alerts rows = record { text = text; alerts = alerts; rows = rows }

pub followed_assoc : (a b c : Outcome) → followed_by (followed_by a b) c ≡ followed_by a (followed_by b c)
followed_assoc a b c =
    ap (λ t. outcome_by t ((a.alerts ++ b.alerts) ++ c.alerts) ((a.rows ++ b.rows) ++ c.rows))
    (λ i form. append_assoc (a.text form) (b.text form) (c.text form) i)
    ∙ ap₂ (λ x y. outcome_by (λ form. a.text form ++ (b.text form ++ c.text form)) x y)
    (append_assoc a.alerts b.alerts c.alerts) (append_assoc a.rows b.rows c.rows)

pub followed_nothing : (a : Outcome) → followed_by a nothing_given ≡ a
followed_nothing a = ap (λ t. outcome_by t (a.alerts ++ []) (a.rows ++ [])) (λ i form. append-nil (a.text form) i)
    ∙ ap₂ (λ x y. outcome_by a.text x y) (append-nil a.alerts) (append-nil a.rows)

pub kept_append : (keeps : Bool) (xs ys : List RowValue) → kept_rows keeps xs ++ kept_rows keeps ys
    ≡ kept_rows keeps (xs ++ ys)
kept_append true xs ys = refl
kept_append false xs ys = refl

-- ---- what was heard changes nothing that is given

said_kept : (front : List Alert) (hearers : List Hearer) (alerts : List Alert)
    → texts_said (told_all front hearers) alerts ≡ texts_said hearers alerts
said_kept front hearers alerts = ap (map (λ n. n.text)) (all_notes_kept front alerts hearers)

rows_kept : (front : List Alert) (hearers : List Hearer) (n : ℕ) (h : History) (articles : List ArticleValue)
    → flat_map (λ a. rows_of_article (told_all front hearers) n (alerts h a)) articles
    ≡ flat_map (λ a. rows_of_article hearers n (alerts h a)) articles
rows_kept front hearers n h [] = refl
rows_kept front hearers n h (a ∷ articles) =
    ap₂ (λ xs ys. xs ++ ys) (ap (rows_of n (alerts h a)) (all_notes_kept front (alerts h a) hearers))
    (rows_kept front hearers n h articles)

pub given_kept : (front : List Alert) (hearers : List Hearer) (n : ℕ) (h : History) (m : Meaning)
    → given (told_all front hearers) n h m ≡ given hearers n h m
given_kept front hearers n h nothing = refl
given_kept front hearers n h (refusal r) = refl
given_kept front hearers n h (refusal_at r k) = refl
given_kept front hearers n h (command c) = refl
given_kept front hearers n h purging = refl
given_kept front hearers n h counting = refl
given_kept front hearers n h (showing id) = refl
given_kept front hearers n h (matching articles) =
    ap₂ (λ t rows. outcome_by t (alerts_of_all h articles) rows)
    (λ i form. reply_text n (matched form (map (alerts_shown h) articles)
    (said_kept front hearers (alerts_of_all h articles) i))) (rows_kept front hearers n h articles)
