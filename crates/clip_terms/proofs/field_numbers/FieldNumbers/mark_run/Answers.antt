use Rattle.std.proofs.Common.{ℕ, List, Option, get_or, ap, ◌∙◌, ◌||◌}
use Rattle.std.specs.List.{list_any}
use Rattle.clip_meaning.specs.Steps.Marks.{is_up}
use Rattle.clip_terms.specs.Steps.FieldNumbers.{covers_before}
use Rattle.clip_terms.proofs.RunPlaces.{anchored_covers}
use Rattle.clip_terms.proofs.field_numbers.FieldNumbers.mark_run.Goals as goal

pub returns-clause-raised : goal.returns-clause-raised
returns-clause-raised c k lt =
    let run = c.args.run.now in
    let rarest = c.rarest-rarest.result in
    let old = is_up (get_or c.args.flags.now k 0) in
    c.mark_about.ensures.raised k lt
    ∙ ap (λ (ns : List (Option ℕ)). old || list_any (covers_before run ns rarest.place k) rarest.spots.now)
    (c.deref-2.ensures.value ∙ c.self.view_is)
    ∙ ap (λ b. old || b) (anchored_covers run c.args.self.now rarest c.rarest-rarest.ensures k)
