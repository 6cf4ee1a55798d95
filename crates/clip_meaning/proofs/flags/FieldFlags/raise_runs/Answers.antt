use Rattle.std.proofs.Common.{◌≡◌, ◌∙◌, ◌+◌, ◌||◌, Bool, true, false, ap, sym, arith, get_or, drop, refl}
use Rattle.std.specs.List.{list_any}
use Rattle.std.proofs.lemmas.List.{at_drop_more}
use Rattle.clip_meaning.specs.Steps.Marks.{is_up, is_within_run}
use Rattle.clip_meaning.proofs.Marks.{raise_end}
use Rattle.clip_meaning.proofs.flags.FieldFlags.raise_runs.Goals as goal

or_later : (a b c : Bool) → ((a || b) || c) ≡ (a || (b || c))
or_later true b c = refl
or_later false b c = refl

pub loop-item-preserved : goal.loop-item-preserved
loop-item-preserved g c = record {
  long = c.raise_run.ensures.long ∙ c.loop-item.invariant.long;
  raised = λ start gives k lt.
      let count = c.args.count in
      let items = c.args.items.now in
      let i = c.loop-item.item-index in
      let item = c.item-item.result in
      let rest = list_any (λ x. is_within_run (start x) count k) (drop (i + 1) items) in
      let old = is_up (get_or c.loop-item.self k 0) in
      ap (λ b. b || rest) (c.raise_run.ensures.raised k (omega (arith, lt, c.loop-item.invariant.long))
      ∙ ap (λ s. old || is_within_run s count k) (gives _ _ c.start_of.ensures))
      ∙ or_later old (is_within_run (start item) count k) rest
      ∙ ap (λ b. old || b) (sym (at_drop_more (list_any (λ x. is_within_run (start x) count k)) items i item
      c.loop-item-test.true ∙ ap (λ x. is_within_run (start x) count k || rest) (sym c.item-item.is)))
      ∙ c.loop-item.invariant.raised start gives k lt;
}

pub returns-clause-raised : goal.returns-clause-raised
returns-clause-raised g c start gives k lt =
    raise_end (λ x. is_within_run (start x) c.args.count k) c.args.items.now c.loop-item.item-index _ _
    c.loop-item-test.false (c.loop-item.invariant.raised start gives k lt)
