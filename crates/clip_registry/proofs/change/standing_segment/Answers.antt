use Rattle.std.proofs.Common.{◌≡◌, true, filter, length, replicate, refl, sym, ap, ◌∙◌}
use Rattle.std.proofs.lemmas.Result.{IfOk-weaker}
use Rattle.clip_model.specs.History.{Registered}
use Rattle.clip_indexed.specs.Selecting.{flagged}
use Rattle.clip_registry.specs.Steps.LiveFlags.{flags_of, without_all}
use Rattle.clip_registry.proofs.LiveFlags.{all_flagged, length-flags_of}
use Rattle.clip_registry.proofs.Picked.{flagged_by}
use Rattle.clip_registry.proofs.change.standing_segment.Given.{Over}
use Rattle.clip_registry.proofs.change.standing_segment.Goals as goal
use Rattle.clip_registry.proofs.change.standing_segment.Goals.{In_ok-clear}

cleared : (g : Over) (c : In_ok-clear g) → c.clear.new.flags
    ≡ flags_of (without_all c.args.gone.now (λ _. true)) c.in_ok-segment.segment.value
cleared g c =
    c.in_ok-clear.ensures (λ _. true)
    (c.in_ok-flags.ensures
    ∙ ap (λ n. replicate n true) (c.len.ensures ∙ ap length (c.deref.ensures ∙ sym c.deref-2.ensures))
    ∙ all_flagged (λ _. true) c.deref-2.result.now (λ k d lt. refl))
    ∙ ap (flags_of (without_all c.args.gone.now (λ _. true))) c.deref-2.ensures

pub live_segment-requires : goal.live_segment-requires
live_segment-requires g c =
    ap length (cleared g (goal.at.live_segment-requires g c).In_ok-clear)
    ∙ length-flags_of (without_all c.args.gone.now (λ _. true)) c.in_ok-segment.segment.value

pub returns-clause-entries : goal.returns-clause-entries
returns-clause-entries g c =
    let left = without_all c.args.gone.now (λ _. true) in
    let es = c.in_ok-segment.segment.value in
    IfOk-weaker c.live_segment.result _ _
    (λ kept is.
    is ∙ ap (λ fs. flagged fs es) (cleared g (goal.at.returns-clause-entries g c).In_ok-clear) ∙ flagged_by left es
    ∙ ap (filter (λ (r : Registered). left r.seq)) (c.in_ok-segment.ensures.ok ∙ c.in_ok-build.ensures))
    c.live_segment.ensures.entries
