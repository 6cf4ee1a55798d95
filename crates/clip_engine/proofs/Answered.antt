-- What a line or a command leaves.
use Rattle.std.proofs.Common.{◌≡◌, ℕ, List, Result, Ok, Err, OnOk, ap₂, false, ◌∙◌}
use Rattle.clip_model.specs.History.{History}
use Rattle.clip_meaning.specs.Article.{ArticleValue}
use Rattle.clip_protocol.specs.LineMeaning.{Means, matching}
use Rattle.clip_stream.specs.declared.form.Form.{Form}
use Rattle.clip_protocol.specs.Reply.{reply}
use Rattle.clip_front.specs.Outcome.{names_in}
use Rattle.clip_registry.specs.Plan.{AreFew}
use Rattle.clip_model.specs.History.{Command, with_command}
use Rattle.clip_registry.specs.RegistryState.{state_after}
use Rattle.clip_registry.specs.Steps.Turns.{TakesTurns}
use Rattle.clip_engine.specs.Engine.{Accepts, Answers, EngineIs, history_of, house}

-- what holds whatever comes holds where all went well
pub if_ok : {X E : Type 0} {P : Type 0} (r : Result X E) → P → OnOk r P
if_ok (Ok x) p = p
if_ok (Err e) p = tt

pub accepted_of : {X E : Type 0} (r : Result X E) (old new : EngineIs) (command : Command)
    → OnOk r (history_of new ≡ with_command (history_of old) 1 command)
    → OnOk r (TakesTurns false (state_after old.owned.registrar 1 command) new.owned.registrar)
    → OnOk r (OnOk new.owned.merges (AreFew new.owned.registrar.segments)) → new.lines ≡ old.lines
    → new.hits ≡ old.hits → OnOk r (Accepts old new command)
accepted_of (Ok x) old new command history turns few lines hits = record {
  history = history;
  turns = turns;
  few = few;
  lines = lines;
  hits = hits;
}
accepted_of (Err e) old new command history turns few lines hits = tt

-- a match, answered at the view that its line left
pub matched_at : (form : Form) (n : ℕ) (line text : List ℕ) (old new seen : History)
    (shown articles : List ArticleValue)
    → Means (names_in house) old line (matching articles) × (new ≡ old) → seen ≡ new → shown ≡ articles
    → text ≡ reply form house n seen (matching shown) → Answers form old new n line text
matched_at form n line text old new seen shown articles taken is_new same printed = record {
  meaning = matching articles;
  means = taken.0;
  history = taken.1;
  replies = printed ∙ ap₂ (λ (h : History) (xs : List ArticleValue). reply form house n h (matching xs)) (is_new
      ∙ taken.1) same;
}
