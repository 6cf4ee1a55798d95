use Rattle.std.proofs.Common.{ℕ, List, Option, length, refl, ap, ◌∙◌, arith}
use Rattle.std.specs.List.{list_any}
use Rattle.clip_terms.specs.declared.repeats.Aligned.{Aligned}
use Rattle.clip_terms.specs.Steps.Runs.{stands_among}
use Rattle.clip_terms.specs.Steps.FieldNumbers.{begins_before}
use Rattle.clip_terms.proofs.RunPlaces.{anchored_stands, next_stands}
use Rattle.clip_terms.proofs.field_numbers.FieldNumbers.has_run.Goals as goal

pub returns-then-is_often : goal.returns-then-is_often
returns-then-is_often c =
    let start : Aligned = record { start = 0; kept = 0 } in
    let numbers = c.deref.ensures.value ∙ c.self.view_is in
    c.is_some.ensures
    ∙ next_stands c.of.result.run.now c.deref.result.now start c.next_from.result refl
    (omega (arith, c.requires, ap length c.of.ensures.run)) c.next_from.ensures
    ∙ (λ i. stands_among (c.of.ensures.run i) (numbers i))

pub returns : goal.returns
returns c =
    let run = c.args.run.now in
    let rarest = c.rarest-rarest.result in
    c.stands_about_any.ensures
    ∙ ap (λ (ns : List (Option ℕ)). list_any (begins_before run ns rarest.place) rarest.spots.now)
    (c.deref-2.ensures.value ∙ c.self.view_is)
    ∙ anchored_stands run c.args.self.now rarest c.rarest-rarest.ensures
