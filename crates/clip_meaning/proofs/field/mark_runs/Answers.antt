use Rattle.std.proofs.Common.{rules, ◌∙◌, ◌||◌, ap, sym, get_or, map}
use Rattle.std.specs.Arc.{arc_str_bytes}
use Rattle.std.specs.List.{list_any}
use Rattle.std.proofs.lemmas.List.{length-map}
use Rattle.clip_meaning.specs.declared.index.Occurrence.{Occurrence}
use Rattle.clip_meaning.specs.Steps.Marks.{is_up, is_within_run, start_at}
use Rattle.clip_meaning.proofs.Marks.{covers_from_start}
use Rattle.clip_meaning.proofs.field.mark_runs.Goals as goal

pub returns-clause-raised : goal.returns-clause-raised
returns-clause-raised c k lt =
    let words = c.args.words.now in
    let phrase = map arc_str_bytes c.args.phrase.now in
    let found = c.args.found.now in
    let old = is_up (get_or c.args.flags.now k 0) in
    c.raise_runs.ensures.raised (λ (o : Occurrence). start_at words phrase o.position) (λ x found e. search rules) k lt
    ∙ ap (λ n. old || list_any (λ (o : Occurrence). is_within_run (start_at words phrase o.position) n k) found)
    (sym (length-map c.args.phrase.now arc_str_bytes))
    ∙ (λ i. old || list_any (λ (o : Occurrence). covers_from_start words phrase k o.position i) found)
