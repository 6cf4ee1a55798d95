use Rattle.std.proofs.Common.{◌≡◌, ℕ, sym, ap, subst, ◌∙◌, map, List, length, get_or, replicate}
use Rattle.std.proofs.lemmas.List.{get_or-replicate, length-replicate}
use Rattle.std.specs.Arc.{arc_value}
use Rattle.clip_model.specs.declared.limits.TheConstants.{MOST_CALLERS}
use Rattle.std.specs.declared.sync.Arc.{Arc}
use Rattle.std.specs.declared.alloc.Global.{Global}
use Rattle.clip_model.specs.History.{Registered}
use Rattle.clip_registry.specs.Steps.LiveFlags.{flags_in}
use Rattle.clip_registry.specs.Steps.State.{IsConsistent}
use Rattle.clip_registry.specs.Steps.Roster.{Roster}
use Rattle.clip_registry.specs.RegistryState.{beginning}
use Rattle.clip_registry.proofs.Keeping.{consistent_beginning}
use Rattle.clip_registry.proofs.state.State.new.Goals as goal

pub invariant_of-result : goal.invariant_of-result
invariant_of-result g c =
    let zeros : c.in_ok-vec.field-0.items ≡ replicate MOST_CALLERS 0 =
    c.in_ok-vec.ensures.items_if_clones_equal (λ y h. h) in
    let is : record {
      segments = map arc_value c.new.result.items;
      history = c.new-2.result.history;
      keeps =
          c.new-2.result.keeps;
    } ≡ beginning c.args.keeps =
    λ i. record {
      segments = map arc_value (c.new.ensures.items i);
      history = (c.new-2.ensures i).history;
      keeps =
          (c.new-2.ensures i).keeps;
    } in (
      subst (λ s. IsConsistent s c.new-3.result c.in_ok-vec.field-0.items) (sym is)
          (consistent_beginning c.args.keeps c.in_ok-vec.field-0.items c.new-3.result
          (ap (λ (r : Roster). r.registry) c.new-3.ensures) (ap (λ (r : Roster). r.listed) c.new-3.ensures)
          (ap length zeros ∙ length-replicate {A = ℕ} MOST_CALLERS 0) (λ k h. ap (λ (xs : List ℕ). get_or xs k 0) zeros
          ∙ get_or-replicate {A = ℕ} MOST_CALLERS k 0 0 h)),
      c.new-4.ensures.items ∙ sym
          (ap (λ (xs : List (Arc (List Registered) Global)). flags_in c.new-3.result.registry (map arc_value xs))
          c.new.ensures.items),
    )
