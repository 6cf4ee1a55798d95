-- What contracts see of a crew.
use Rattle.std.specs.Prelude.{◌≡◌, ◌⊎◌, ℕ, List, [], Bool, true, false, refl}
use Rattle.std.specs.Coded.{Coded, code_by, coded×, coded⊎, coded_ℕ, coded_bool, coded_list}
use Rattle.std.proofs.Common.{inl, inr}
use Rattle.clip_grammar.specs.TreeCode.{bytes_code}
use Rattle.clip_meaning.specs.Article.{ArticleValue, article_code}
use Rattle.clip_model.specs.History.{History, history_code}
use Rattle.clip_listen.specs.Heard.{Hearer}
use Rattle.clip_ledger.specs.Rows.{RowValue, row_code}
use Rattle.clip_stream.specs.declared.form.Form.{Form}
use Rattle.clip_stream.specs.declared.form.Form.TheVariants.{Plain, WithHits}
use Rattle.clip_front.specs.declared.settings.Settings.{Settings}
use Rattle.clip_run.specs.Owed.{Owed, ready, matched, Course}

-- what was accepted, the rows, where they are kept, the settings, and what is owed
pub record CrewIs : Type 0 where
  pub history : History
  pub rows : List RowValue
  pub settings : Settings
  pub owed : List Owed

-- It has answered no line: no row is kept, and nothing is owed.
abbrev pub IsNew : CrewIs → Type 0
IsNew crew = (crew.rows ≡ []) × (crew.owed ≡ [])

-- with these listeners
abbrev pub course : CrewIs → List Hearer → Course
course crew hearers = record {
  history = crew.history;
  hearers = hearers;
  rows = crew.rows;
  settings = crew.settings;
  owed = crew.owed;
}

-- with what an audience tells of its listeners
abbrev pub course_at : {A : Type 0} → (A → List Hearer) → CrewIs × A → Course
course_at hearers s = course s.0 (hearers s.1)

-- ---- codes

abbrev owed_parts : Owed → List ℕ ⊎ (ℕ × (History × List ArticleValue))
owed_parts (ready text) = inl text
owed_parts (matched n h articles) = inr (n, (h, articles))

abbrev owed_made : List ℕ ⊎ (ℕ × (History × List ArticleValue)) → Owed
owed_made (inl text) = ready text
owed_made (inr p) = matched p.0 p.1.0 p.1.1

pub owed_again : (o : Owed) → owed_made (owed_parts o) ≡ o
owed_again (ready text) = refl
owed_again (matched n h articles) = refl

abbrev owed_code : Coded Owed
owed_code = code_by (List ℕ ⊎ (ℕ × (History × List ArticleValue)))
    (coded⊎ bytes_code (coded× coded_ℕ (coded× history_code (coded_list article_code)))) owed_parts owed_made owed_again

abbrev shows_hits : Form → Bool
shows_hits Plain = false
shows_hits WithHits = true

abbrev form_made : Bool → Form
form_made false = Plain
form_made true = WithHits

pub form_again : (f : Form) → form_made (shows_hits f) ≡ f
form_again Plain = refl
form_again WithHits = refl

abbrev settings_parts : Settings → Bool × (Bool × ℕ)
settings_parts s = (shows_hits s.form, (s.keeps_rows, s.workers))

abbrev settings_made : Bool × (Bool × ℕ) → Settings
settings_made p = record { form = form_made p.0; keeps_rows = p.1.0; workers = p.1.1 }

pub settings_again : (s : Settings) → settings_made (settings_parts s) ≡ s
settings_again s = λ i. record { form = form_again s.form i; keeps_rows = s.keeps_rows; workers = s.workers }

abbrev settings_code : Coded Settings
settings_code = code_by (Bool × (Bool × ℕ)) (coded× coded_bool (coded× coded_bool coded_ℕ)) settings_parts settings_made
    settings_again

abbrev pub crew_code : Coded CrewIs
crew_code =
    code_by (History × (List RowValue × (Settings × List Owed)))
    (coded× history_code (coded× (coded_list row_code) (coded× settings_code (coded_list owed_code))))
    (λ c. (c.history, (c.rows, (c.settings, c.owed))))
    (λ p. record { history = p.0; rows = p.1.0; settings = p.1.1.0; owed = p.1.1.1 }) (λ _. refl)
