use Rattle.std.proofs.Common.{◌++◌, ◌∷◌, [], false, unwrap_or, ap, ap₂, sym, ◌∙◌, arith}
use Rattle.std.proofs.lemmas.List.{take_more}
use Rattle.std.proofs.lemmas.Option.{unwrap_or-slice_get}
use Rattle.clip_registry.proofs.live_flags.list_flags.Goals as goal

pub loop-place-preserved : goal.loop-place-preserved
loop-place-preserved c =
    let flags = c.args.flags.now in
    let place = c.loop-place.place in
    c.in_ok-push.ensures.items
    ∙ ap₂ (λ fs f. fs ++ f ∷ []) c.loop-place.invariant
    (c.unwrap_or.ensures ∙ ap (λ f. unwrap_or f false) c.get.ensures ∙ unwrap_or-slice_get flags place false)
    ∙ sym (take_more flags place false (omega (arith, c.loop-place-test.true, c.len-place-end.ensures)))
