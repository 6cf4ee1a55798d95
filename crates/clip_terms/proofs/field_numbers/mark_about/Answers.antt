use Rattle.std.proofs.Common.{rules, ◌∙◌, ◌||◌, get_or}
use Rattle.std.specs.List.{list_any}
use Rattle.clip_meaning.specs.Steps.Marks.{is_up}
use Rattle.clip_terms.specs.Steps.FieldNumbers.{start_before}
use Rattle.clip_terms.specs.declared.field_numbers.Spot.{Spot}
use Rattle.clip_terms.proofs.RunPlaces.{covers_from_start}
use Rattle.clip_terms.proofs.field_numbers.mark_about.Goals as goal

pub returns-clause-raised : goal.returns-clause-raised
returns-clause-raised c k lt =
    let run = c.args.run.now in
    let numbers = c.args.numbers.now in
    let place = c.args.anchor.now.place in
    let old = is_up (get_or c.args.flags.now k 0) in
    c.raise_runs.ensures.raised (start_before run numbers place) (λ x found e. search rules) k lt
    ∙ (λ i. old || list_any (λ (s : Spot). covers_from_start run numbers place k s i) c.args.anchor.now.spots.now)
