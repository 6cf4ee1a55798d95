use Rattle.std.proofs.Common.{List, [], ◌∷◌, ◌++◌, refl, ap, ◌∙◌, sym, subst, arith}
use Rattle.std.specs.List.Sorted.{IsStrictlySortedBy}
use Rattle.clip_extract.specs.Keys.{KeyValue, Any, key_cmp}
use Rattle.clip_segment.proofs.Flagged.{flagged_rises, kept_next, left_next, none_next}
use Rattle.clip_segment.proofs.kept_terms.flagged_heads.Goals as goal
use Rattle.clip_segment.proofs.kept_terms.flagged_heads.Goals.{then-flag_at+in_ok-push, else-flag_at}

pub loop-number-preserved : goal.loop-number-preserved
loop-number-preserved c =
    let terms : List KeyValue = c.args.terms.now in
    let i = c.loop-number.number in
    let heads : List KeyValue = c.loop-number.heads.items in
    elim c.if-flag_at.branch [
      | then-flag_at+in_ok-push w ↦
          kept_next (λ (ks : List KeyValue). ks) (λ k. k ∷ []) (λ x xs. refl) c.args.flags.now terms i Any heads
          c.if-flag_at.heads.items _
          (omega arith) (sym c.flag_at.ensures ∙ w.if-flag_at.true)
          (ap (λ v. v.items) w.heads-is ∙ w.in_ok-push.ensures.items
          ∙ ap (λ k. heads ++ k ∷ []) w.head.ensures) c.loop-number.invariant
      | else-flag_at w ↦
          left_next (λ (ks : List KeyValue). ks) (λ k. k ∷ []) (λ x xs. refl) c.args.flags.now terms i Any heads
          c.if-flag_at.heads.items _
          (omega arith) (sym c.flag_at.ensures
          ∙ w.if-flag_at.false) (ap (λ v. v.items) w.heads-is) c.loop-number.invariant
    ]

pub returns-clause-rising : goal.returns-clause-rising
returns-clause-rising c =
    let terms : List KeyValue = c.args.terms.now in
    subst (IsStrictlySortedBy key_cmp)
    (sym (none_next (λ (ks : List KeyValue). ks) (λ k. k ∷ []) (λ x xs. refl) c.args.flags.now terms
    c.loop-number.number c.loop-number.heads.items _ refl (omega arith) c.loop-number.invariant))
    (flagged_rises c.args.flags.now terms c.order_law.ensures)

pub returns-clause-flagged : goal.returns-clause-flagged
returns-clause-flagged c =
    let terms : List KeyValue = c.args.terms.now in
    none_next (λ (ks : List KeyValue). ks) (λ k. k ∷ []) (λ x xs. refl) c.args.flags.now terms c.loop-number.number
    c.loop-number.heads.items _ refl (omega arith) c.loop-number.invariant
