use Rattle.std.proofs.Common.{◌∷◌, [], get_or, take, sym, ap, ◌∙◌}
use Rattle.std.proofs.lemmas.List.{take_all, take_more}
use Rattle.clip_registry.specs.Steps.LiveFlags.{flags_of, without_all}
use Rattle.clip_registry.proofs.LiveFlags.{without-append}
use Rattle.clip_registry.proofs.live_flags.clear.Goals as goal

pub loop-seq-preserved : goal.loop-seq-preserved
loop-seq-preserved g c =
    let seqs = c.args.seqs.now in
    let at = c.loop-seq.seq-index in
    let seq = get_or seqs at 0 in
    record {
      long = c.in_ok-clear_in.ensures.long ∙ c.loop-seq.invariant.long;
      done = λ is are.
          c.in_ok-clear_in.ensures.cleared (without_all (take at seqs) is) (c.loop-seq.invariant.done is are)
          ∙ ap (λ t. flags_of t c.args.segment.now)
          (sym (ap (λ ss. without_all ss is)
          (take_more seqs at 0 c.loop-seq-test.true) ∙ without-append (take at seqs) (seq ∷ []) is));
    }

pub returns : goal.returns
returns g c = λ is are.
    c.loop-seq.invariant.done is are
    ∙ ap (λ ss. flags_of (without_all ss is) c.args.segment.now)
    (take_all c.loop-seq.seq-index c.args.seqs.now c.loop-seq-test.false)
