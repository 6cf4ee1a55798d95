use Rattle.std.proofs.Common.{◌≡◌, ℕ, ◌<◌, ◌++◌, ◌∷◌, [], get_or, take, length, sym, ap, ◌∙◌, arith, append_assoc}
use Rattle.clip_pieces.specs.Marked.{is_lost}
use Rattle.clip_pieces.proofs.Lost.{lost_within}
use Rattle.clip_indexed.specs.Segment.{seqs_of}
use Rattle.clip_registry.specs.Steps.LiveFlags.{died, flags_of}
use Rattle.clip_registry.proofs.Clearing.{all_died, one_more}
use Rattle.clip_registry.proofs.live_flags.add_died.Goals as goal

pub loop-place-preserved : goal.loop-place-preserved
loop-place-preserved g c =
    let place = c.in-Some.place in
    let from = c.loop-place.from in
    let source = c.args.source.now in
    let before = c.args.seqs.now.items in
    let low : place < length source =
    omega (arith, lost_within c.args.begun.now c.args.now.now place c.in-Some.ensures.lost, c.requires) in
    let seq = get_or c.seqs-all.result.now place 0 in
    record {
      within = omega arith;
      done = λ is was here begun.
          let lost : (k : ℕ) → is_lost (flags_of was source) (flags_of is source) k
          ≡ is_lost c.args.begun.now c.args.now.now k = λ k. (λ i. is_lost (sym begun i) (sym here i) k) in
          c.in_ok-push.ensures.items
          ∙ ap (λ ss. ss ++ seq ∷ []) (c.loop-place.invariant.done is was here begun)
          ∙ append_assoc before (seqs_of (died is was (take from source))) (seq ∷ [])
          ∙ ap (λ ss. before ++ ss)
          (sym (one_more is was source from place seq c.in-Some.ensures.from low
          (ap (λ ns. get_or ns place 0) c.seqs-all.ensures.value) (lost place ∙ c.in-Some.ensures.lost)
          (λ k after earlier. lost k ∙ c.in-Some.ensures.first k after earlier)));
    }

pub returns : goal.returns
returns g c = λ is was here begun.
    c.loop-place.invariant.done is was here begun
    ∙ ap (λ ds. c.args.seqs.now.items ++ seqs_of ds)
    (all_died is was c.args.source.now c.loop-place.from c.loop-place.invariant.within
    (λ k after. (λ i. is_lost (sym begun i) (sym here i) k) ∙ c.in_default.ensures.first k after tt))
