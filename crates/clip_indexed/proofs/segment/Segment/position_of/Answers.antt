use Rattle.std.proofs.Common.{◌≡◌, List, Some, ℕ, slice_get, subst, sym, ◌∙◌}
use Rattle.clip_model.specs.History.{Registered}
use Rattle.clip_indexed.specs.Segment.{seqs_of}
use Rattle.clip_indexed.specs.Steps.SegmentView.{entries_of}
use Rattle.clip_indexed.proofs.Found.{seq_above, seq_found, seq_missing}
use Rattle.clip_indexed.proofs.segment.Segment.position_of.Goals as goal

pub returns-then-last-seq-clause-nowhere : goal.returns-then-last-seq-clause-nowhere
returns-then-last-seq-clause-nowhere g c _ =
    subst (λ (es : List Registered). (position : ℕ) → slice_get (seqs_of es) position ≡ Some c.args.seq
    → ⊥) c.self.view_is
    (seq_above (entries_of c.self.inside) c.self.invariant.rising c.deref.result.now (c.deref.ensures.value
    ∙ c.self.invariant.seqs) c.args.seq c.in_ok-last.last.now (sym c.in_ok-last.ensures.value) c.if-last-seq.true)

pub returns-in-Ok-clause-there : goal.returns-in-Ok-clause-there
returns-in-Ok-clause-there g c =
    subst (λ (es : List Registered). slice_get (seqs_of es) c.in-Ok.position ≡ Some c.args.seq) c.self.view_is
    (seq_found (entries_of c.self.inside) c.self.invariant.rising c.deref-2.result.now (c.deref-2.ensures.value
    ∙ c.self.invariant.seqs) c.args.seq c.in-Ok.position c.in-Ok.ensures.position)

pub returns-in-Err-clause-nowhere : goal.returns-in-Err-clause-nowhere
returns-in-Err-clause-nowhere g c _ =
    subst (λ (es : List Registered). (position : ℕ) → slice_get (seqs_of es) position ≡ Some c.args.seq
    → ⊥) c.self.view_is
    (seq_missing (entries_of c.self.inside) c.self.invariant.rising c.deref-2.result.now (c.deref-2.ensures.value
    ∙ c.self.invariant.seqs) c.args.seq c.in-Err.field-0 c.in-Err.ensures.position)
