-- What was found of a line's articles is all that the line gives.
use Rattle.std.proofs.Common.{◌≡◌, ℕ, ◌≤◌, List, [], ◌∷◌, ◌++◌, length, map, take, false, refl, ap, ap₂, ◌∙◌, arith}
use Rattle.std.proofs.lemmas.List.{length-map, take_all}
use Rattle.std.specs.Arc.{arc_str_bytes}
use Rattle.std.specs.Prelude.{flat_map, Result, Ok, Err, OnOk}
use Rattle.clip_meaning.specs.Article.{ArticleValue}
use Rattle.clip_model.specs.Alerts.{alerts}
use Rattle.clip_match.specs.Alerts.{alerts_due}
use Rattle.clip_standing.specs.Alerts.{AlertsValue}
use Rattle.clip_listen.specs.Heard.{Hearer, note_value, notes_of, told_all}
use Rattle.clip_registry.specs.RegistryState.{RegistryState}
use Rattle.clip_protocol.specs.LineMeaning.{matching}
use Rattle.clip_stream.specs.declared.form.Form.{Form}
use Rattle.clip_protocol.specs.Reply.{alerts_data, alerts_shown, alerts_of_all, matched, reply_text, texts_said}
use Rattle.clip_protocol.specs.Steps.Flowing.{closing, items_begun, opening}
use Rattle.clip_protocol.specs.Steps.Views.{alerts_by_id}
use Rattle.clip_front.specs.declared.books.Books.{Books}
use Rattle.clip_front.specs.declared.delivery.MatchReply.{MatchReply}
use Rattle.clip_front.specs.Outcome.{given, kept_rows, rows_of_article}
use Rattle.clip_front.specs.Steps.Answers.{GoesOn, held}
use Rattle.clip_front.specs.Steps.Found.{told_in, rows_in, found_text, found_outcome}
use Rattle.clip_front.proofs.Flowing.{begun_text, data_of, text_whole}
use Rattle.clip_front.proofs.Responses.{held_by}
use Rattle.clip_run.specs.Due.{due_to}
use Rattle.clip_run.specs.Pending.{owed_to}
use Rattle.clip_run.specs.declared.batch.Batch.{Batch}

shown-alerts_due : (s : RegistryState) (articles : List ArticleValue) → map alerts_by_id (map (alerts_due s) articles)
    ≡ map (alerts_shown s.history) articles
shown-alerts_due s [] = refl
shown-alerts_due s (a ∷ articles) = ap (λ rest. alerts_shown s.history a ∷ rest) (shown-alerts_due s articles)

pub told-alerts_due : (s : RegistryState) (articles : List ArticleValue) → told_in (map (alerts_due s) articles)
    ≡ alerts_of_all s.history articles
told-alerts_due s [] = refl
told-alerts_due s (a ∷ articles) = ap (λ rest. alerts s.history a ++ rest) (told-alerts_due s articles)

rows-alerts_due : (hearers : List Hearer) (n : ℕ) (s : RegistryState) (articles : List ArticleValue)
    → rows_in hearers n (map (alerts_due s) articles)
    ≡ flat_map (λ a. rows_of_article hearers n (alerts s.history a)) articles
rows-alerts_due hearers n s [] = refl
rows-alerts_due hearers n s (a ∷ articles) =
    ap (λ rest. rows_of_article hearers n (alerts s.history a) ++ rest) (rows-alerts_due hearers n s articles)

-- the text of what is due, with the texts of the notes
pub text-alerts_due : (form : Form) (hearers : List Hearer) (n : ℕ) (s : RegistryState) (articles : List ArticleValue)
    → found_text form hearers n (map (alerts_due s) articles)
    ≡ (given hearers n s.history (matching articles)).text form
text-alerts_due form hearers n s articles =
    ap₂ (λ ids told. reply_text n (matched form ids (texts_said hearers told))) (shown-alerts_due s articles)
    (told-alerts_due s articles)

-- a line that matches articles gives just what is found of them at a view with its history
pub found_given : (view : RegistryState) (hearers : List Hearer) (n : ℕ) (articles : List ArticleValue)
    (found : List AlertsValue) → found ≡ map (alerts_due view) articles → found_outcome hearers n found
    ≡ given hearers n view.history (matching articles)
found_given view hearers n articles found is =
    ap (found_outcome hearers n) is
    ∙ ap₂ (λ text rows. record { text = text; alerts = told_in (map (alerts_due view) articles); rows = rows })
    (λ i form. text-alerts_due form hearers n view articles i) (rows-alerts_due hearers n view articles)
    ∙ ap (λ told. record {
      text = (given hearers n view.history (matching articles)).text;
      alerts = told;
      rows =
          (given hearers n view.history (matching articles)).rows;
    }) (told-alerts_due view articles)

-- a run on one thread goes on by what is owed to a batch
pub goes_on_owed : {T E : Type 0} (result : Result T E) (hearers heard : List Hearer) (books now : Books)
    (batch : Batch) → OnOk result (heard ≡ told_all (owed_to hearers batch).alerts hearers)
    → OnOk result (now.ledger
    ≡ books.ledger ++ kept_rows books.settings.keeps_rows (owed_to hearers batch).rows)
    → OnOk result (now.settings ≡ books.settings)
    → OnOk result (GoesOn (held batch.view.history hearers books) (held batch.view.history heard now) batch.number
    (matching batch.drafts.items) ((owed_to hearers batch).text books.settings.form))
goes_on_owed (Err e) hearers heard books now batch told rows settings = tt
goes_on_owed (Ok t) hearers heard books now batch told rows settings = record {
  leaves =
      ap (λ k. held_by k batch.view.history heard now.ledger) settings
      ∙ ap₂ (held_by books.settings batch.view.history) told rows;
  replies = refl;
}

-- ---- article by article

-- all articles are among the first that were matched
pub all_matched : (view : RegistryState) (articles : List ArticleValue) (i : ℕ) → length articles ≤ i
    → take i (map (alerts_due view) articles) ≡ map (alerts_due view) articles
all_matched view articles i all =
    take_all i (map (alerts_due view) articles) (omega (arith, all, length-map articles (alerts_due view)))

-- what is put after all articles of a batch is the reply
pub whole_reply : (batch : Batch) (form : Form) (hearers : List Hearer) (shown : MatchReply) (i : ℕ)
    → length batch.drafts.items ≤ i → shown.number ≡ batch.number
    → map note_value shown.notes.items ≡ notes_of hearers (told_in (take i (due_to batch)))
    → begun_text (data_of form (due_to batch)) i
    ++ closing shown.number (map (λ x. arc_str_bytes x.text) shown.notes.items)
    ≡ (owed_to hearers batch).text form
whole_reply batch form hearers shown i all number said =
    let articles = batch.drafts.items in
    let vs = due_to batch in
    let ds = data_of form vs in
    let texts = map (λ x. arc_str_bytes x.text) shown.notes.items in
    let within : length ds ≤ i =
    omega (
      arith,
      all,
      length-map articles (alerts_due batch.view),
      length-map vs alerts_by_id,
      length-map (map alerts_by_id vs) (alerts_data form),
    ) in
    ap (λ xs. (opening ++ items_begun false xs) ++ closing shown.number texts) (take_all i ds within)
    ∙ ap (λ j. (opening ++ items_begun false ds) ++ closing j texts) number
    ∙ text_whole form hearers batch.number vs shown.notes.items (said
    ∙ ap (λ ws. notes_of hearers (told_in ws)) (all_matched batch.view articles i all))
    ∙ text-alerts_due form hearers batch.number batch.view articles
