use Rattle.std.proofs.Common.{◌≡◌, map, sym, ap, refl, subst, ◌∙◌}
use Rattle.std.specs.Arc.{arc_value}
use Rattle.clip_merge.specs.Plan.{IsRun}
use Rattle.clip_registry.specs.RegistryState.{RegistryState}
use Rattle.clip_registry.specs.Steps.State.{state_or_beginning}
use Rattle.clip_registry.proofs.registrar.Registrar.begin.Given.{Over}
use Rattle.clip_registry.proofs.registrar.Registrar.begin.Goals as goal
use Rattle.clip_registry.proofs.registrar.Registrar.begin.Goals.{After-plan}

-- the segments that are planned are those of the registry
planned : (g : Over) (c : After-plan g) → map arc_value c.deref-2.result.now ≡ c.args.self.now.segments
planned g c =
    ap (map arc_value) c.deref-2.ensures.value
    ∙ ap (λ (s : RegistryState). s.segments) (c.behind-state.view_is ∙ c.deref.ensures
    ∙ ap (state_or_beginning c.self.inside.keeps) (sym c.in-Some.is) ∙ c.self.view_is)

pub returns-in-None-clause-nothing : goal.returns-in-None-clause-nothing
returns-in-None-clause-nothing g c _ first run =
    c.in-None.ensures.none refl first
    (subst (λ ss. IsRun ss first) (sym (planned g (goal.at.returns-in-None-clause-nothing g c).After-plan)) run)
