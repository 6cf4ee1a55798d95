use Rattle.std.proofs.Common.{◌≡◌, ◌-◌, ◌<◌, ◌⊎◌, inl, inr, sym, ap, ◌∙◌, arith, length}
use Rattle.clip_model.specs.declared.limits.TheConstants.{MOST_CALLERS}
use Rattle.clip_model.specs.History.{own}
use Rattle.clip_model.proofs.Counting.{own_length}
use Rattle.clip_registry.specs.RegistryState.{RegistryState}
use Rattle.clip_registry.specs.Steps.State.{state_of}
use Rattle.clip_registry.proofs.Keeping.{counted}
use Rattle.clip_registry.proofs.Strangers.{strangers_give_none}
use Rattle.clip_registry.proofs.state.State.number_of.Goals as goal
use Rattle.clip_registry.proofs.state.State.number_of.Goals.{then-caller-eq0-via-then-caller-eq0}
use Rattle.clip_registry.proofs.state.State.number_of.Goals.{then-caller-eq0-via-else-caller-eq0+then-caller-gt-MOST_CALLERS}

pub returns-then-caller-eq0-clause-count : goal.returns-then-caller-eq0-clause-count
returns-then-caller-eq0-clause-count g c =
    let out : (c.args.caller ≡ 0) ⊎ (MOST_CALLERS < c.args.caller) = elim c.then-caller-eq0.branch [
      | then-caller-eq0-via-then-caller-eq0 w ↦ inl (let h = w.if-caller-eq0.true in omega arith)
      | then-caller-eq0-via-else-caller-eq0+then-caller-gt-MOST_CALLERS w ↦
          inr (let h = w.if-caller-gt-MOST_CALLERS.true in omega arith)
    ] in
    sym (ap (λ (s : RegistryState). length (own s.history c.args.caller)) (sym c.self.view_is)
    ∙ ap length (strangers_give_none (state_of c.self.inside).history c.args.caller c.self.invariant.0.legal out))

pub overflow_cast-result : goal.overflow_cast-result
overflow_cast-result g c =
    let kept = c.self.invariant.0 in
    let low : 0 < c.args.caller = let h = c.if-caller-eq0.false in omega arith in
    let place : c.args.caller - 1 < length c.self.inside.counts.items = let a = kept.callers in let d =
    c.if-caller-gt-MOST_CALLERS.false in omega arith in
    let x = counted c.self.inside.counts.items (c.args.caller - 1) c.index.result.now
    (length (own (state_of c.self.inside).history c.args.caller)) place c.index.ensures
    (kept.numbers c.args.caller low c.if-caller-gt-MOST_CALLERS.false) in
    let few = own_length (state_of c.self.inside).history c.args.caller in
    let short = kept.legal.short in
    omega arith
