use Rattle.std.proofs.Common.{map, sym, ap, subst, ◌∙◌}
use Rattle.std.specs.Arc.{arc_value}
use Rattle.std.specs.List.{Contains}
use Rattle.clip_indexed.specs.Segment.{all_entries, seqs_of}
use Rattle.clip_model.specs.History.{is_live_in, replay}
use Rattle.clip_registry.specs.RegistryState.{RegistryState}
use Rattle.clip_registry.specs.Steps.LiveFlags.{flags_by}
use Rattle.clip_registry.specs.Steps.State.{state_of}
use Rattle.clip_registry.proofs.LiveFlags.{live_among}
use Rattle.clip_registry.proofs.state.State.is_live.Goals as goal

pub returns : goal.returns
returns g c =
    let seq = c.args.seq in
    let is = is_live_in c.self.inside.roster.registry in
    let registry = c.self.invariant.0.registry in
    c.has_live.ensures is
    (c.deref.ensures.value ∙ c.self.invariant.1
    ∙ ap (λ ss. flags_by is (map arc_value ss)) (sym c.deref-2.ensures.value))
    (λ live. subst (λ ss. Contains (seqs_of (all_entries (map arc_value ss))) seq) (sym c.deref-2.ensures.value)
    (live_among (state_of c.self.inside) seq c.self.invariant.0.whole
    (ap (λ m. is_live_in m seq) (sym registry) ∙ live)))
    ∙ ap (λ m. is_live_in m seq) (registry ∙ ap (λ (s : RegistryState). replay s.history) c.self.view_is)
