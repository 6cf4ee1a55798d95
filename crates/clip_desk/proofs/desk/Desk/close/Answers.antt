use Rattle.std.proofs.Common.{◌∙◌, ◌≤◌, ℕ, map, slice_get, refl, sym, ap, subst}
use Rattle.clip_model.specs.History.{History}
use Rattle.clip_desk.specs.Callers.{IsBy}
use Rattle.clip_desk.specs.Seats.{IsAccounted, purges_with}
use Rattle.clip_desk.specs.Updates.{AllFollow, heard_by}
use Rattle.clip_desk.proofs.desk.Desk.close.Goals as goal

pub all_agree-requires : goal.all_agree-requires
all_agree-requires g c k s at tag =
    c.requires k s (ap (λ l. slice_get l k) (sym c.as_slice.ensures.value) ∙ at) (tag ∙ ap (λ d. d.tag) c.self.view_is)

pub returns-clause-legal : goal.returns-clause-legal
returns-clause-legal g c = (
  c.end-registrar.ensures.legal.0,
  subst (λ n. IsBy n c.end-registrar.result.0.history) (sym c.self.invariant
      ∙ ap (λ d. d.callers) c.self.view_is) c.end-registrar.ensures.legal.1,
)

pub returns-clause-seats : goal.returns-clause-seats
returns-clause-seats g c =
    let same = ap (λ s. s.history) c.end-registrar.ensures.same in
    let tag = ap (λ d. d.tag) c.self.view_is in
    record {
      each = λ k s at. subst (λ (h : History). IsAccounted c.args.self.tag h s) (sym same)
          (subst (λ (t : ℕ). IsAccounted t c.into_inner-locked.result.registry.history s) tag
          (c.if-not-all_agree.ensures refl k s (ap (λ l. slice_get l k) c.as_slice.ensures.value ∙ at)));
      none_missing = λ caller low high.
          let callers = ap (λ d. d.callers) c.self.view_is in
          let one = c.if-not-has_all.ensures refl caller low (subst (λ (n : ℕ). caller ≤ n) (sym callers) high) in
          (one.0, one.1, ap (λ l. slice_get l one.0) (sym c.as_slice-else-not-all_agree.ensures.value) ∙ one.2, one.3);
    }

pub returns-clause-told : goal.returns-clause-told
returns-clause-told g c =
    let closed = c.end-registrar.result in
    subst (λ (n : ℕ). AllFollow g.N.DeskName.heard_before closed.0.history n
    (map (heard_by g.L.UpdateListener.heard) closed.1.items))
    (sym c.purges.ensures ∙ sym (c.if-not-are_of_all_purges.ensures refl)
    ∙ ap purges_with c.as_slice-else-not-has_all.ensures.value) c.end-registrar.ensures.follow
