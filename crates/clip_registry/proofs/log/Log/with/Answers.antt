use Rattle.std.proofs.Common.{◌≡◌, ◌-◌, [], ◌∷◌, ◌++◌, ◌∙◌, length, map, refl, sym, ap, arith, length-append, slice_get}
use Rattle.std.proofs.Common.{Some}
use Rattle.std.proofs.lemmas.List.{map-append}
use Rattle.std.proofs.lemmas.Option.{none-some, same_Some}
use Rattle.clip_model.specs.History as model
use Rattle.clip_model.specs.History.{History}
use Rattle.clip_standing.specs.Command.{entry_of}
use Rattle.clip_registry.proofs.log.Log.with.Goals as goal
use Rattle.clip_registry.proofs.log.Log.with.Goals.{in-Some+in_ok-clone+in_ok-push, in_default}

at_end : (h : History) (e : model.HistoryEntry) → slice_get (h ++ e ∷ []) (length h) ≡ Some e
at_end [] e = refl
at_end (x ∷ h) e = at_end h e

pub invariant_of-result : goal.invariant_of-result
invariant_of-result c =
    let before : History = c.self.inside.trail.history in
    let e = entry_of c.args.entry in
    let trail : c.then.result.history ≡ before ++ e ∷ [] =
    c.then.ensures ∙ ap (λ x. before ++ entry_of x ∷ []) c.value.ensures in
    let length_is = length-append before (e ∷ []) in
    record {
      counted = let n = length_is in let was = c.self.invariant.counted in let is = ap length trail in omega arith;
      last = sym (ap (λ h. slice_get h (length h - 1)) trail
          ∙ ap (slice_get (before ++ e ∷ [])) (omega (arith, length_is)) ∙ at_end before e);
      kept = elim c.match-kept.branch [
        | in-Some+in_ok-clone+in_ok-push w ↦ λ x is.
            ap (map entry_of) (same_Some _ _ (sym is ∙ w.kept-is) ∙ w.in_ok-push.ensures.ok)
            ∙ map-append entry_of w.in-Some.list (w.in_ok-clone.field-0 ∷ [])
            ∙ (λ i. c.self.invariant.kept w.in-Some.list w.in-Some.is i ++ entry_of (w.in_ok-clone.ensures.cases i)
            ∷ []) ∙ sym trail
        | in_default w ↦ λ x is. absurd (none-some _ (sym w.in_default.is ∙ sym w.kept-is ∙ is))
      ];
    }
