use Rattle.std.proofs.Common.{◌≡◌, ℕ, List, Option, option_map, sym, ◌∙◌}
use Rattle.clip_model.specs.History.{History}
use Rattle.clip_protocol.specs.LineMeaning.{Meaning, Means}
use Rattle.clip_cause.specs.Causes.{told_by}
use Rattle.clip_cause.specs.Steps.Telling.{TellsOfLine}
use Rattle.clip_cause.specs.declared.cause.LineCause.{LineCause}
use Rattle.clip_cause.proofs.Telling.{if_ok, meaning_told, refusal_told}
use Rattle.clip_cause.proofs.explaining.explain_line.Goals as goal

pub returns-clause-meaning : goal.returns-clause-meaning
returns-clause-meaning c =
    let line = c.args.line.now in
    let Agrees : Option LineCause → Type 0 = λ found. (names : List (List ℕ)) (history : History) (m : Meaning)
    → Means names history line m → told_by m ≡ option_map (λ cause. cause.refusal) found in
    if_ok c.cause_of_line.result (λ found. TellsOfLine line found) Agrees (λ found told names history m means.
    meaning_told names history line m means ∙ sym (refusal_told line found told)) c.cause_of_line.ensures.told
