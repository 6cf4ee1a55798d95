use Rattle.std.proofs.Common.{map, length, replicate, true, sym, ap, subst, ◌∙◌, append-nil}
use Rattle.std.specs.Arc.{arc_value}
use Rattle.clip_indexed.specs.Segment.{IsRising}
use Rattle.clip_indexed.specs.Selecting.{flagged, kept_of}
use Rattle.clip_registry.proofs.Picked.{flagged_all, rising_flagged}
use Rattle.clip_registry.proofs.purging.live_segment.Goals as goal

pub returns-then-are_all_set-clause-entries : goal.returns-then-are_all_set-clause-entries
returns-then-are_all_set-clause-entries g c =
    let es = c.args.segment.now.value in
    let all = sym c.value.ensures ∙ c.are_all_set.ensures c.if-are_all_set.true
    ∙ ap (λ n. replicate n true) (ap length c.value.ensures ∙ c.requires) in
    c.in_ok-clone.ensures.cases ∙ sym (ap (λ fs. flagged fs es) all ∙ flagged_all es)

pub select_live-requires-clause-rising : goal.select_live-requires-clause-rising
select_live-requires-clause-rising g c =
    let es = c.args.segment.now.value in
    let flags = c.args.live.now in
    subst IsRising
    (sym ((λ i. kept_of (map arc_value (c.from_ref.ensures.value i)) (c.from_ref-2.ensures.value i))
    ∙ append-nil (flagged flags es)))
    (rising_flagged flags es (subst IsRising c.deref.ensures c.seqs-seqs.ensures.rising))
