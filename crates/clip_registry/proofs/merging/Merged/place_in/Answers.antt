use Rattle.std.proofs.Common.{◌≡◌, ◌+◌, ◌-◌, List, length, map, take, drop, sym, ap, subst, ◌∙◌, arith}
use Rattle.std.proofs.lemmas.List.{length-map, take-map, drop-map}
use Rattle.std.specs.Arc.{arc_value}
use Rattle.std.specs.List.{list_all}
use Rattle.clip_merge.specs.Plan.{neighbours}
use Rattle.clip_indexed.specs.Segment.{all_entries}
use Rattle.clip_model.specs.History.{is_live_in}
use Rattle.clip_registry.specs.Merging.{Merge, StandsAt}
use Rattle.clip_registry.specs.Merging.IsStale.{misses}
use Rattle.clip_registry.specs.RegistryState.{RegistryState}
use Rattle.clip_registry.specs.Steps.LiveFlags.{flags_by, flags_of, stays}
use Rattle.clip_registry.specs.Steps.Merging.{IsMerged}
use Rattle.clip_registry.specs.Steps.State.{IsConsistent}
use Rattle.clip_registry.proofs.Missing.{misses_none, kept_merge, misses_one}
use Rattle.clip_registry.proofs.merging.Merged.place_in.Given.{Over}
use Rattle.clip_registry.proofs.merging.Merged.place_in.Goals as goal
use Rattle.clip_registry.proofs.merging.Merged.place_in.Goals.{After-misses_none}

merged : (g : Over) (c : After-misses_none g) → IsMerged c.self.inside.flags.items c.self.inside.live c.args.self.now
merged g c = subst (IsMerged c.self.inside.flags.items c.self.inside.live) c.self.view_is c.self.invariant

state : (g : Over) (c : After-misses_none g)
    → IsConsistent c.args.state.now c.state.inside.roster c.state.inside.counts.items
state g c =
    subst (λ (s : RegistryState). IsConsistent s c.state.inside.roster c.state.inside.counts.items) c.state.view_is
    c.state.invariant.0

segments : (g : Over) (c : After-misses_none g) → map arc_value c.state.inside.segments.items
    ≡ c.args.state.now.segments
segments g c = ap (λ (s : RegistryState). s.segments) c.state.view_is

stands : (g : Over) (c : After-misses_none g)
    → StandsAt c.args.state.now.segments c.args.self.now.sources c.in_ok-first.first
stands g c =
    let sources = ap (map arc_value) c.deref-2.ensures.value ∙ ap (λ (m : Merge). m.sources) c.self.view_is in
    subst (λ ss. StandsAt c.args.state.now.segments ss c.in_ok-first.first) sources
    (subst (λ ss. StandsAt ss (map arc_value c.deref-2.result.now) c.in_ok-first.first)
    (ap (map arc_value) c.deref.ensures.value ∙ segments g c) c.in_ok-first.ensures.stands)

-- the flags that are compared are those of the sources, as they are now
now : (g : Over) (c : After-misses_none g)
    → take (c.in_ok-first.first + c.len.result - c.in_ok-first.first) (drop c.in_ok-first.first c.deref-3.result.now)
    ≡ flags_by (is_live_in c.state.inside.roster.registry) c.args.self.now.sources
now g c =
    let live = is_live_in c.state.inside.roster.registry in
    let all = map arc_value c.state.inside.segments.items in
    let first = c.in_ok-first.first in
    let count = first + c.len.result - first in
    let many : c.len.result ≡ length c.args.self.now.sources =
    c.len.ensures ∙ c.self.inside.sources.ok.0 ∙ sym (length-map c.self.inside.sources.items arc_value)
    ∙ ap (λ (m : Merge). length m.sources) c.self.view_is in
    let same : count ≡ length c.args.self.now.sources = omega (arith, many) in
    ap (λ (fs : List (List _)). take count (drop first fs)) (c.deref-3.ensures.value ∙ c.state.invariant.1)
    ∙ ap (take count) (drop-map (flags_of live) first all) ∙ take-map (flags_of live) count (drop first all)
    ∙ ap (λ n. flags_by live (neighbours all first n)) same
    ∙ ap (λ ss. flags_by live (neighbours ss first (length c.args.self.now.sources))) (segments g c)
    ∙ ap (flags_by live) (stands g c)

tested : (g : Over) (c : After-misses_none g)
    → list_all (stays (is_live_in c.state.inside.roster.registry) (merged g c).is)
    (all_entries c.args.self.now.sources) ≡ c.misses_none.result
tested g c =
    sym (c.misses_none.ensures (is_live_in c.state.inside.roster.registry) (merged g c).is c.args.self.now.sources
    (now g c) (c.deref-4.ensures.value ∙ (merged g c).flagged))

pub returns-then-misses_none-clause-complete : goal.returns-then-misses_none-clause-complete
returns-then-misses_none-clause-complete g c =
    let here = (goal.at.returns-then-misses_none-clause-complete g c).After-misses_none in
    misses_none c.args.state.now c.args.self.now c.state.inside.roster.registry
    c.self.inside.flags.items c.self.inside.live (merged g here)
    (state g here).registry (tested g here ∙ c.if-misses_none.true)

pub returns-then-misses_none-clause-kept : goal.returns-then-misses_none-clause-kept
returns-then-misses_none-clause-kept g c =
    let here = (goal.at.returns-then-misses_none-clause-kept g c).After-misses_none in
    kept_merge c.args.state.now c.args.self.now c.state.inside.roster.registry
    c.self.inside.flags.items c.self.inside.live (merged g here)
    (state g here).registry c.in_ok-first.first (tested g here ∙ c.if-misses_none.true) (state g here).whole
    (stands g here)

pub returns-else-misses_none-clause-stale : goal.returns-else-misses_none-clause-stale
returns-else-misses_none-clause-stale g c _ =
    let here = (goal.at.returns-else-misses_none-clause-stale g c).After-misses_none in
    misses (misses_one c.args.state.now c.args.self.now c.state.inside.roster.registry
    c.self.inside.flags.items c.self.inside.live (merged g here)
    (state g here).registry (tested g here ∙ c.if-misses_none.false))
