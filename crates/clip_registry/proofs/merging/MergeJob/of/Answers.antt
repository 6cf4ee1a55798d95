use Rattle.std.proofs.Common.{◌≡◌, ◌-◌, ◌≤◌, Bool, List, [], append-nil, length, length-take, length-drop, map, take}
use Rattle.std.proofs.Common.{drop, sym, ap, subst, ◌∙◌, arith}
use Rattle.std.proofs.lemmas.List.{take-map, drop-map}
use Rattle.std.proofs.lemmas.List.Elements.{same_from_all_zip}
use Rattle.std.specs.Arc.{arc_value}
use Rattle.clip_merge.specs.Plan.{neighbours}
use Rattle.clip_indexed.specs.Segment.{IsRising, all_entries}
use Rattle.clip_indexed.specs.Selecting.{kept_of}
use Rattle.clip_indexed.specs.declared.segment.TheConstants.{MOST_POSITIONS}
use Rattle.clip_model.specs.History.{Registered, is_live_in}
use Rattle.clip_registry.specs.Merging.{live_of}
use Rattle.clip_registry.specs.RegistryState.{RegistryState}
use Rattle.clip_registry.specs.Steps.LiveFlags.{flags_by, flags_of}
use Rattle.clip_registry.specs.Steps.State.{IsConsistent}
use Rattle.clip_standing.proofs.Clones.{map_shared}
use Rattle.clip_registry.proofs.Counted.{neighbours_rise, few_live}
use Rattle.clip_registry.proofs.Picked.{kept_by, picked}
use Rattle.clip_registry.proofs.merging.MergeJob.of.Given.{Over}
use Rattle.clip_registry.proofs.merging.MergeJob.of.Goals as goal
use Rattle.clip_registry.proofs.merging.MergeJob.of.Goals.{In_ok-to_vec-2}

state : (g : Over) (c : In_ok-to_vec-2 g)
    → IsConsistent c.args.state.now c.state.inside.roster c.state.inside.counts.items
state g c =
    subst (λ (s : RegistryState). IsConsistent s c.state.inside.roster c.state.inside.counts.items) c.state.view_is
    c.state.invariant.0

-- the neighbours, as the registry has them
abbrev those : (g : Over) → In_ok-to_vec-2 g → List (List Registered)
those g c = neighbours c.args.state.now.segments c.args.first (c.args.past - c.args.first)

segments : (g : Over) (c : In_ok-to_vec-2 g) → map arc_value c.state.inside.segments.items ≡ c.args.state.now.segments
segments g c = ap (λ (s : RegistryState). s.segments) c.state.view_is

sources : (g : Over) (c : In_ok-to_vec-2 g) → map arc_value c.in_ok-to_vec.field-0.items ≡ those g c
sources g c =
    let first = c.args.first in
    let count = c.args.past - first in
    map_shared (take count (drop first c.deref.result.now)) c.in_ok-to_vec.field-0.items c.in_ok-to_vec.ensures.ok
    ∙ sym (take-map arc_value count (drop first c.deref.result.now))
    ∙ ap (take count) (sym (drop-map arc_value first c.deref.result.now))
    ∙ ap (λ ss. neighbours ss first count) (ap (map arc_value) c.deref.ensures.value ∙ segments g c)

flags : (g : Over) (c : In_ok-to_vec-2 g)
    → c.in_ok-to_vec-2.field-0.items ≡ flags_by (is_live_in c.state.inside.roster.registry) (those g c)
flags g c =
    let live = is_live_in c.state.inside.roster.registry in
    let all = map arc_value c.state.inside.segments.items in
    let first = c.args.first in
    let count = c.args.past - first in
    same_from_all_zip (λ (x y : List Bool). y ≡ x) _ _ c.in_ok-to_vec-2.ensures.ok (λ x y e. e)
    ∙ ap (λ (fs : List (List Bool)). take count (drop first fs)) (c.deref-2.ensures.value ∙ c.state.invariant.1)
    ∙ ap (take count) (drop-map (flags_of live) first all) ∙ take-map (flags_of live) count (drop first all)
    ∙ ap (λ ss. flags_by live (neighbours ss first count)) (segments g c)

many : (g : Over) (c : In_ok-to_vec-2 g) → length (those g c) ≡ c.args.past - c.args.first
many g c =
    let all = c.args.state.now.segments in
    let taken = length-take (c.args.past - c.args.first) (drop c.args.first all) in
    omega (arith, c.requires.some, c.requires.there, taken, length-drop c.args.first all)

pub invariant_of-result : goal.invariant_of-result
invariant_of-result g c =
    let live = is_live_in c.state.inside.roster.registry in
    let count = c.args.past - c.args.first in
    let whole = (state g c).whole in
    let few = few_live c.args.state.now c.args.first count whole in
    let small = (state g c).legal.small c.args.state.now.history [] (sym (append-nil c.args.state.now.history)) in
    let same : picked live (all_entries (map arc_value c.in_ok-to_vec.field-0.items))
    ≡ live_of c.args.state.now (all_entries (those g c)) =
    ap (λ ss. picked live (all_entries ss)) (sources g c)
    ∙ ap (λ m. picked (is_live_in m) (all_entries (those g c))) (state g c).registry in
    record {
      some = omega (arith, ap length (sources g c), many g c, c.requires.some);
      rising = subst (λ ss. IsRising (all_entries ss)) (sym (sources g c))
          (neighbours_rise c.args.state.now.segments c.args.first count whole.rising);
      is = live;
      flagged = flags g c ∙ ap (flags_by live) (sym (sources g c));
      short = subst (λ (es : List Registered). length es ≤ MOST_POSITIONS) (sym same) (omega arith);
    }

pub returns : goal.returns
returns g c =
    let first = c.args.first in
    let count = length (map arc_value c.in_ok-to_vec.field-0.items) in
    let as_many : count ≡ c.args.past - first = ap length (sources g c) ∙ many g c in
    record {
      stands = ap (neighbours c.args.state.now.segments first) as_many ∙ sym (sources g c);
      ends = omega (arith, as_many, c.requires.some);
      live = ap (map (λ (r : Registered). r.seq))
          ((λ i. kept_of (sources g c i) (flags g c i))
          ∙ kept_by (is_live_in c.state.inside.roster.registry) (those g c)
          ∙ ap (λ m. picked (is_live_in m) (all_entries (those g c))) (state g c).registry
          ∙ ap (λ ss. live_of c.args.state.now (all_entries ss)) (sym (sources g c)));
    }
