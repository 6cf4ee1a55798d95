use Rattle.std.proofs.Common.{◌≡◌, ℕ, ◌+◌, ◌-◌, ◌++◌, Bool, List, length, length-drop, map, take, drop, sym, ap, ap₂}
use Rattle.std.proofs.Common.{◌∙◌, arith}
use Rattle.std.proofs.lemmas.List.{length-map, map-append, take_all, take-map, drop-map}
use Rattle.std.proofs.lemmas.List.Elements.{same_from_all_zip}
use Rattle.std.specs.Arc.{arc_value}
use Rattle.clip_indexed.specs.Segment.{all_entries, seqs_of}
use Rattle.clip_merge.specs.Plan.{neighbours}
use Rattle.clip_model.specs.History.{is_live_in, replay}
use Rattle.clip_registry.specs.Merging.{Merge, shelf}
use Rattle.clip_registry.specs.RegistryState.{RegistryState}
use Rattle.clip_registry.specs.Steps.LiveFlags.{died, flags_by, flags_in, flags_of, without_all}
use Rattle.clip_standing.proofs.Clones.{map_shared}
use Rattle.clip_registry.proofs.Clearing.{left_flags}
use Rattle.clip_registry.proofs.LiveFlags.{shape_of}
use Rattle.clip_registry.proofs.merging.Merged.put_in.Given.{Over}
use Rattle.clip_registry.proofs.merging.Merged.put_in.Goals as goal
use Rattle.clip_registry.proofs.merging.Merged.put_in.Goals.{After-len-3, In_ok-clear, In_ok-extend_with_clones-4}

tail : {X : Type 0} (xs : List X) (k : ℕ) → take (length xs - k) (drop k xs) ≡ drop k xs
tail xs k = take_all (length xs - k) (drop k xs) (omega (arith, length-drop k xs))

counted : (g : Over) (c : After-len-3 g) → c.len-3.result ≡ length c.args.self.sources
counted g c = c.len-3.ensures ∙ c.self.inside.sources.ok.0 ∙ sym (length-map c.self.inside.sources.items arc_value)
    ∙ ap (λ (m : Merge). length m.sources) c.self.view_is

pub overflow_add-past : goal.overflow_add-past
overflow_add-past g c =
    let items = c.state.inside.segments.items in
    let many : length items ≡ length c.args.state.now.segments =
    sym (length-map items arc_value) ∙ ap (λ (s : RegistryState). length s.segments) c.state.view_is in
    omega (arith, counted g c, many, c.requires.there, c.state.inside.segments.ok.0, c.len.ensures, c.len.type_inv)

pub died_since-requires-clause-begun : goal.died_since-requires-clause-begun
died_since-requires-clause-begun g c =
    let sources = map arc_value c.self.inside.sources.items in
    ap (map length) (c.deref-3.ensures.value ∙ c.self.invariant.flagged)
    ∙ shape_of c.self.invariant.is sources ∙ ap (λ ss. map length (map arc_value ss)) (sym c.deref.ensures.value)

pub returns-clause-segments : goal.returns-clause-segments
returns-clause-segments g c =
    let first = c.args.first in
    let all = c.args.state.now.segments in
    let added = c.in_ok-extend_with_clones.ensures.items in
    let rest = c.in_ok-extend_with_clones-3.ensures.items in
    let past = first + c.len-3.result in
    let those = c.deref-8.result.now in
    let same = ap (λ (s : RegistryState). s.segments) c.state.view_is in
    let front : map arc_value c.extend_with_clones.new.self.items ≡ take first all =
    ap (map arc_value) (added.1 ∙ ap (λ l. l ++ added.0) c.in_ok-segments.ensures.items)
    ∙ map_shared (take first c.deref-6.result.now) added.0 added.2 ∙ sym (take-map arc_value first c.deref-6.result.now)
    ∙ ap (take first) (ap (map arc_value) c.deref-6.ensures.value ∙ same) in
    let back : map arc_value rest.0 ≡ drop (first + length c.args.self.sources) all =
    map_shared (take (length those - past) (drop past those)) rest.0 rest.2 ∙ ap (map arc_value) (tail those past)
    ∙ sym (drop-map arc_value past those)
    ∙ ap (drop past) (ap (map arc_value) c.deref-8.ensures.value ∙ same)
    ∙ ap (λ k. drop (first + k) all) (counted g (goal.at.returns-clause-segments g c).After-len-3) in
    ap (map arc_value) rest.1 ∙ map-append arc_value c.shelve.new.segments.items rest.0
    ∙ ap₂ (λ xs ys. xs ++ ys)
    (c.in_ok-shelve.ensures.segments
    ∙ ap₂ (λ xs es. xs ++ shelf es) front (ap (λ (m : Merge). m.entries) c.self.view_is)) back

-- the flags of the merge are those of what is live
set : (g : Over) (c : In_ok-clear g) → c.len-3.result ≡ length c.args.self.sources
    → c.clear.new.flags ≡ flags_of (is_live_in c.state.inside.roster.registry) c.self.inside.segment.value
set g c count =
    let is = is_live_in c.state.inside.roster.registry in
    let was = c.self.invariant.is in
    let first = c.args.first in
    let size = first + c.len-3.result - first in
    let all = map arc_value c.state.inside.segments.items in
    let sources = map arc_value c.self.inside.sources.items in
    let same : neighbours all first size ≡ sources =
    ap (λ (s : RegistryState). neighbours s.segments first size) c.state.view_is
    ∙ ap (neighbours c.args.state.now.segments first) (omega (arith, count)) ∙ c.requires.stands
    ∙ sym (ap (λ (m : Merge). m.sources) c.self.view_is) in
    let now : take size (drop first c.deref-2.result.now) ≡ flags_by is sources =
    ap (λ (fs : List (List Bool)). take size (drop first fs)) (c.deref-2.ensures.value ∙ c.state.invariant.1)
    ∙ ap (take size) (drop-map (flags_of is) first all) ∙ take-map (flags_of is) size (drop first all)
    ∙ ap (flags_by is) same in
    let gone = c.deref-5.ensures.value
    ∙ c.in_ok-died.ensures is was (now ∙ ap (λ ss. flags_by is (map arc_value ss)) (sym c.deref.ensures.value))
    (c.deref-3.ensures.value ∙ c.self.invariant.flagged
    ∙ ap (λ ss. flags_by was (map arc_value ss)) (sym c.deref.ensures.value))
    ∙ ap (λ ss. seqs_of (died is was (all_entries (map arc_value ss)))) c.deref.ensures.value in
    c.in_ok-clear.ensures was (c.self.invariant.all ∙ ap (flags_of was) (sym c.deref-4.ensures))
    ∙ (λ i. flags_of (without_all (gone i) was) ((c.deref-4.ensures ∙ c.self.invariant.picked) i))
    ∙ left_flags is was (all_entries sources) ∙ ap (flags_of is) (sym c.self.invariant.picked)

pub returns-clause-flags : goal.returns-clause-flags
returns-clause-flags g c =
    let here = goal.at.returns-clause-flags g c in
    let is = is_live_in c.state.inside.roster.registry in
    let first = c.args.first in
    let past = first + c.len-3.result in
    let all = map arc_value c.state.inside.segments.items in
    let added = c.in_ok-extend_with_clones.ensures.items in
    let more = c.in_ok-extend_with_clones-2.ensures.items in
    let rest = c.in_ok-extend_with_clones-3.ensures.items in
    let last = c.in_ok-extend_with_clones-4.ensures.items in
    let before = c.shelve.new.segments.items in
    let those = c.deref-8.result.now in
    let front : c.extend_with_clones-2.new.self.items
    ≡ flags_by is (map arc_value c.extend_with_clones.new.self.items) =
    more.1 ∙ ap (λ l. l ++ more.0) c.in_ok-live.ensures.items
    ∙ same_from_all_zip (λ (x y : List Bool). y ≡ x) _ _ more.2 (λ x y e. e)
    ∙ ap (take first) (c.deref-7.ensures.value ∙ c.state.invariant.1) ∙ take-map (flags_of is) first all
    ∙ ap (flags_by is) (take-map arc_value first c.state.inside.segments.items
    ∙ ap (λ ss. map arc_value (take first ss)) (sym c.deref-6.ensures.value)
    ∙ sym (ap (map arc_value) (added.1 ∙ ap (λ l. l ++ added.0) c.in_ok-segments.ensures.items)
    ∙ map_shared (take first c.deref-6.result.now) added.0 added.2)) in
    let back : last.0 ≡ flags_by is (map arc_value rest.0) =
    same_from_all_zip (λ (x y : List Bool). y ≡ x) _ _ last.2 (λ x y e. e)
    ∙ tail c.deref-9.result.now past ∙ ap (drop past) (c.deref-9.ensures.value ∙ c.state.invariant.1)
    ∙ drop-map (flags_of is) past all
    ∙ ap (flags_by is) (drop-map arc_value past c.state.inside.segments.items
    ∙ ap (λ ss. map arc_value (drop past ss)) (sym c.deref-8.ensures.value)
    ∙ ap (map arc_value) (sym (tail those past))
    ∙ sym (map_shared (take (length those - past) (drop past those)) rest.0 rest.2)) in
    last.1
    ∙ ap₂ (λ xs ys. xs ++ ys)
    (c.in_ok-shelve.ensures.live is front (set g here.In_ok-clear (counted g here.After-len-3))) back
    ∙ sym (map-append (flags_of is) (map arc_value before) (map arc_value rest.0))
    ∙ ap (flags_by is) (sym (ap (map arc_value) rest.1 ∙ map-append arc_value before rest.0))
    ∙ ap (λ m. flags_in m (map arc_value c.extend_with_clones-3.new.self.items)) (c.state.invariant.0.registry
    ∙ ap (λ (s : RegistryState). replay s.history) c.state.view_is)
