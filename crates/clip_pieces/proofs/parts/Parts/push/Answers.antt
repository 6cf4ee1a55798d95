-- An item goes behind the last one of the last part, or into a new part where all are full.
use Rattle.std.proofs.Common.{◌≡◌, ℕ, ◌+◌, ◌-◌, ◌%◌, ◌<◌, List, [], ◌∷◌, length, map, ap, sym, subst, arith, ◌∙◌}
use Rattle.clip_pieces.specs.Pieces.{joined, AreFilled}
use Rattle.clip_pieces.proofs.Filled.{before_end, same_part, some_parts, last_part, new_part, error_only}
use Rattle.clip_pieces.proofs.parts.Parts.push.Goals as goal
use Rattle.clip_pieces.proofs.parts.Parts.push.Goals.{then-self-FULL-eq0+in_ok-part+in_ok-new+in_ok-push}
use Rattle.clip_pieces.proofs.parts.Parts.push.Goals.{else-self-FULL-eq0+in_ok-push_to}

pub nonzero_rem-self-inside : goal.nonzero_rem-self-inside
nonzero_rem-self-inside g c = subst (λ (n : ℕ). 0 < n) (sym c.FULL.ensures) g.met.P.Part.has_items

pub invariant_of-self-in_err-push : goal.invariant_of-self-in_err-push
invariant_of-self-in_err-push g c =
    subst (λ (parts : List g.row.P.Denot). AreFilled g.P.Part.FULL (map g.P.Part.items parts)
    × (c.self.inside.len ≡ length (joined (map g.P.Part.items parts)))) (sym c.in_err-push.ensures.items)
    c.self.invariant

pub returns-in_err-push-clause-err : goal.returns-in_err-push-clause-err
returns-in_err-push-clause-err g c =
    error_only c.from_residual-in_err-push.result
    (ap (λ (parts : List g.row.P.Denot). joined (map g.P.Part.items parts)) c.in_err-push.ensures.items
    ∙ c.self.view_is)

pub overflow_sub-last : goal.overflow_sub-last
overflow_sub-last g c =
    let some : c.self.inside.len % g.P.Part.FULL ≡ 0 → ⊥ = rw c.FULL.ensures at c.if-self-FULL-eq0.false in
    let parts = some_parts g.P.Part.items g.P.Part.FULL c.self.inside.parts.items c.self.inside.len c.self.invariant
    some in
    subst (λ (n : ℕ). 0 < n) (sym (c.len-last.ensures ∙ c.self.inside.parts.ok.0)) parts

pub index_mut-requires : goal.index_mut-requires
index_mut-requires g c =
    let some : c.self.inside.len % g.P.Part.FULL ≡ 0 → ⊥ = rw c.FULL.ensures at c.if-self-FULL-eq0.false in
    let parts = some_parts g.P.Part.items g.P.Part.FULL c.self.inside.parts.items c.self.inside.len c.self.invariant
    some in
    before_end c.len-last.result c.self.inside.parts.len c.len-last.ensures
    (subst (λ (n : ℕ). 0 < n) (sym c.self.inside.parts.ok.0) parts)

pub invariant_of-self-in_err-push_to : goal.invariant_of-self-in_err-push_to
invariant_of-self-in_err-push_to g c =
    (same_part g.P.Part.items g.P.Part.FULL c.self.inside.parts.items c.self.inside.len c.self.invariant
    (c.len-last.result - 1) c.index_mut.result.now c.push_to.new.part c.index_mut.ensures.value
    c.in_err-push_to.ensures.err).0

pub returns-in_err-push_to-clause-err : goal.returns-in_err-push_to-clause-err
returns-in_err-push_to-clause-err g c =
    let same = (same_part g.P.Part.items g.P.Part.FULL c.self.inside.parts.items c.self.inside.len c.self.invariant
    (c.len-last.result - 1) c.index_mut.result.now c.push_to.new.part c.index_mut.ensures.value
    c.in_err-push_to.ensures.err).1 in
    error_only c.from_residual-in_err-push_to.result (same ∙ c.self.view_is)

pub invariant_of-self-2 : goal.invariant_of-self-2
invariant_of-self-2 g c =
    let more : c.in-Some.len ≡ c.self.inside.len + 1 = omega (arith, c.in-Some.ensures) in
    elim c.if-self-FULL-eq0.branch [
      | then-self-FULL-eq0+in_ok-part+in_ok-new+in_ok-push w ↦
          let full : c.self.inside.len % g.P.Part.FULL ≡ 0 = rw c.FULL.ensures at w.if-self-FULL-eq0.true in
          let one : g.P.Part.items w.in_ok-new.field-0 ≡ c.args.item ∷ [] = ap g.P.Part.items w.in_ok-new.ensures
          ∙ w.in_ok-part.ensures in
          let all = new_part g.P.Part.items g.P.Part.FULL c.self.inside.parts.items c.self.inside.len c.self.invariant
          w.in_ok-new.field-0 c.args.item g.met.P.Part.has_items full one in
          rw (w.self-inside-is, w.in_ok-push.ensures.items, more) all.0
      | else-self-FULL-eq0+in_ok-push_to w ↦
          let some : c.self.inside.len % g.P.Part.FULL ≡ 0 → ⊥ = rw c.FULL.ensures at w.if-self-FULL-eq0.false in
          let all = last_part g.P.Part.items g.P.Part.FULL c.self.inside.parts.items c.self.inside.len c.self.invariant
          w.len-last.result w.index_mut.result.now w.push_to.new.part c.args.item some
          (w.len-last.ensures ∙ c.self.inside.parts.ok.0) w.index_mut.ensures.value w.in_ok-push_to.ensures.ok in
          rw (w.self-inside-is, more) all.0
    ]

pub returns-clause-ok : goal.returns-clause-ok
returns-clause-ok g c =
    elim c.if-self-FULL-eq0.branch [
      | then-self-FULL-eq0+in_ok-part+in_ok-new+in_ok-push w ↦
          let full : c.self.inside.len % g.P.Part.FULL ≡ 0 = rw c.FULL.ensures at w.if-self-FULL-eq0.true in
          let one : g.P.Part.items w.in_ok-new.field-0 ≡ c.args.item ∷ [] = ap g.P.Part.items w.in_ok-new.ensures
          ∙ w.in_ok-part.ensures in
          let all = new_part g.P.Part.items g.P.Part.FULL c.self.inside.parts.items c.self.inside.len c.self.invariant
          w.in_ok-new.field-0 c.args.item g.met.P.Part.has_items full one in
          rw (w.self-inside-is, w.in_ok-push.ensures.items, ← c.self.view_is) all.1
      | else-self-FULL-eq0+in_ok-push_to w ↦
          let some : c.self.inside.len % g.P.Part.FULL ≡ 0 → ⊥ = rw c.FULL.ensures at w.if-self-FULL-eq0.false in
          let all = last_part g.P.Part.items g.P.Part.FULL c.self.inside.parts.items c.self.inside.len c.self.invariant
          w.len-last.result w.index_mut.result.now w.push_to.new.part c.args.item some
          (w.len-last.ensures ∙ c.self.inside.parts.ok.0) w.index_mut.ensures.value w.in_ok-push_to.ensures.ok in
          rw (w.self-inside-is, ← c.self.view_is) all.1
    ]
