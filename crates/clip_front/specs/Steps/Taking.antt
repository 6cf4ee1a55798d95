-- What a line comes to, before any alert is told.
use Rattle.std.specs.Prelude.{◌≡◌, ◌⊎◌, ℕ, List, ⊤}
use Rattle.clip_model.specs.History.{History}
use Rattle.clip_listen.specs.Heard.{Hearer}
use Rattle.clip_protocol.specs.LineMeaning.{Meaning, Means, after, nothing, refusal, refusal_at, command, purging}
use Rattle.clip_protocol.specs.LineMeaning.{counting, showing, matching}
use Rattle.clip_protocol.specs.Reply.{reply}
use Rattle.clip_stream.specs.declared.form.Form.{Form}
use Rattle.clip_front.specs.declared.answer.Step.{Step}
use Rattle.clip_front.specs.declared.answer.Step.TheVariants as step

-- A line that tells no alert means this.
abbrev pub IsQuiet : Meaning → Type 0
IsQuiet nothing = ⊤
IsQuiet (refusal r) = ⊤
IsQuiet (refusal_at r k) = ⊤
IsQuiet (command c) = ⊤
IsQuiet purging = ⊤
IsQuiet counting = ⊤
IsQuiet (showing id) = ⊤
IsQuiet (matching articles) = ⊥

-- From the first history to the second by line n, which tells no alert, and in each form and whoever listens, this is
-- the text of its reply.
pub record TakesQuietly (names : List (List ℕ)) (old new : History) (n : ℕ) (line text : List ℕ) : Type 0 where
  pub meaning : Meaning
  pub means : Means names old line meaning
  pub quiet : IsQuiet meaning
  pub history : new ≡ after old meaning
  pub replies : (form : Form) (hearers : List Hearer) → text ≡ reply form hearers n old meaning

-- From the first history to the second by line n, where the listeners of these names are here, and this is what it
-- comes to: the text of its reply, or drafts that stand for the articles that it lists.
abbrev pub Takes : List (List ℕ) → History → History → ℕ → List ℕ → Step → Type 0
Takes names old new n line (step.Reply text) = TakesQuietly names old new n line text.items
Takes names old new n line (step.Match drafts) = Means names old line (matching drafts.items) × (new ≡ old)

-- No purge was made of the registry: it stayed, or went on without one.
abbrev pub Unpurged : {H : Type 0} → (H → H → Type 0) → H → H → Type 0
Unpurged goes_on old new = (new ≡ old) ⊎ goes_on old new

-- One purge was made of the registry where it was asked for, and none where it was not.
pub record PurgesIf {H : Type 0} (asked : Type 0) (purges goes_on : H → H → Type 0) (old new : H) : Type 0 where
  pub purged : asked → purges old new
  pub unpurged : (asked → ⊥) → Unpurged goes_on old new
