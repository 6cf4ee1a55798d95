use Rattle.std.proofs.Common.{◌≡◌, ◌∙◌, ◌||◌, [], ap, sym, arith, get_or, map, length, eqb-true}
use Rattle.std.proofs.lemmas.List.{nil_from_length}
use Rattle.clip_meaning.specs.Steps.Marks.{is_up}
use Rattle.clip_terms.specs.Terms.{term_at}
use Rattle.clip_terms.specs.Spots.{SpotsValue, is_covered}
use Rattle.clip_terms.proofs.Spotted.{run_covers, none_covered, or_false, some_number}
use Rattle.clip_terms.proofs.spots.FieldSpots.mark_run.Goals as goal

pub mark_run-requires : goal.mark_run-requires
mark_run-requires c = some_number (length c.args.run.now) (sym c.is_empty.ensures ∙ c.if-is_empty.false)

pub returns-clause-raised : goal.returns-clause-raised
returns-clause-raised c k lt =
    let old = is_up (get_or c.args.flags.now k 0) in
    let run = c.args.run.now in
    let inside = c.self.inside in
    let holds = c.self.invariant in
    c.mark_run.ensures.raised k lt
    ∙ ap (λ b. old || b) (run_covers inside.reading.now.terms holds.strict inside.field.now inside.numbers.now run k
    holds.numbers)
    ∙ ap (λ (s : SpotsValue). old || is_covered s.field (map (term_at s.terms) run) k) c.self.view_is

pub returns-then-is_empty-clause-raised : goal.returns-then-is_empty-clause-raised
returns-then-is_empty-clause-raised c k lt =
    let old = is_up (get_or c.args.flags.now k 0) in
    let value = c.args.self.now in
    let short : length c.args.run.now ≡ 0 =
    eqb-true (length c.args.run.now) 0 (sym c.is_empty.ensures ∙ c.if-is_empty.true) in
    let none : c.args.run.now ≡ [] = nil_from_length c.args.run.now (omega (arith, short)) in
    sym (ap (λ run. old || is_covered value.field (map (term_at value.terms) run) k) none
    ∙ ap (λ b. old || b) (none_covered value.field k) ∙ or_false old)
