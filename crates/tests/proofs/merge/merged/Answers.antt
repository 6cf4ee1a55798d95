use Rattle.std.proofs.Common.{◌∷◌, [], ◌∙◌, ap, arith, length, map, rules, subst, sym}
use Rattle.std.proofs.lemmas.List.{length-map}
use Rattle.std.specs.Arc.{arc_value}
use Rattle.clip_merge.specs.Live.{AreRising}
use Rattle.clip_merge.proofs.Named.{named_fewer}
use Rattle.clip_model.specs.History.{Registered}
use Rattle.clip_indexed.specs.Segment.{all_entries}
use Rattle.tests.proofs.Rising.{entries_rise}
use Rattle.tests.proofs.merge.merged.Goals as goal

four_rise : AreRising (1 ∷ 2 ∷ 3 ∷ 4 ∷ [])
four_rise = search rules

pub merge-requires-clause-rising : goal.merge-requires-clause-rising
merge-requires-clause-rising c =
    let seqs = ap (λ ss. map (λ (e : Registered). e.seq) (all_entries (map arc_value ss))) c.deref.ensures.value
    ∙ c.in_ok-singles.ensures in
    entries_rise (all_entries (map arc_value c.deref.result.now)) (subst AreRising (sym seqs) four_rise)

pub merge-requires-clause-short : goal.merge-requires-clause-short
merge-requires-clause-short c =
    let all = all_entries (map arc_value c.deref.result.now) in
    let seqs = ap (λ ss. length (map (λ (e : Registered). e.seq) (all_entries (map arc_value ss))))
    c.deref.ensures.value ∙ ap length c.in_ok-singles.ensures in
    omega (arith, named_fewer c.of-live.result all, length-map all (λ (e : Registered). e.seq))
