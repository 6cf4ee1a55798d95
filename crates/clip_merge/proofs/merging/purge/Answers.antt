use Rattle.std.proofs.Common.{◌≡◌, ◌≤◌, append-nil, map, length, sym, ap, subst, ◌∙◌, arith}
use Rattle.std.proofs.lemmas.Result.{IfOk-weaker}
use Rattle.std.specs.Arc.{arc_value}
use Rattle.clip_indexed.specs.Segment.{IsRising, all_entries}
use Rattle.clip_indexed.specs.declared.segment.TheConstants.{MOST_POSITIONS}
use Rattle.clip_merge.specs.Live.{named}
use Rattle.clip_merge.proofs.Named.{named_fewer}
use Rattle.clip_merge.proofs.merging.purge.Goals as goal

pub merge-requires-clause-rising : goal.merge-requires-clause-rising
merge-requires-clause-rising g c =
    let alone = ap (λ ss. all_entries (map arc_value ss)) c.from_ref.ensures.value
    ∙ append-nil (arc_value c.args.segment.now) in
    subst IsRising (c.deref.ensures ∙ sym alone) c.seqs-seqs.ensures.rising

pub merge-requires-clause-short : goal.merge-requires-clause-short
merge-requires-clause-short g c =
    let live = c.args.live.now in
    let alone = ap (λ ss. all_entries (map arc_value ss)) c.from_ref.ensures.value
    ∙ append-nil (arc_value c.args.segment.now) in
    let few : length (named live c.deref.result.now) ≤ MOST_POSITIONS =
    omega (arith, named_fewer live c.deref.result.now, c.seqs-seqs.ensures.short) in
    subst (λ es. length (named live es) ≤ MOST_POSITIONS) (c.deref.ensures ∙ sym alone) few

pub returns : goal.returns
returns g c =
    let live = c.args.live.now in
    let alone = ap (λ ss. all_entries (map arc_value ss)) c.from_ref.ensures.value
    ∙ append-nil (arc_value c.args.segment.now) in
    IfOk-weaker c.merge.result _ (λ found. found ≡ named live (arc_value c.args.segment.now)) (λ found is. is
    ∙ ap (named live) alone) c.merge.ensures
