use Rattle.std.proofs.Common.{◌∙◌, ap, arith, map, sym}
use Rattle.std.proofs.lemmas.List.{take_all}
use Rattle.std.proofs.lemmas.Simd.{map-map}
use Rattle.std.proofs.lemmas.Grind.{common_steps}
use Rattle.clip_model.specs.History.{Registered}
use Rattle.clip_match.specs.Alerts.{alert_due}
use Rattle.clip_match.specs.declared.held.Held.{Held}
use Rattle.clip_match.proofs.entries.DueEntries.queries.Goals as goal

pub returns : goal.returns
returns c =
    let article = c.args.self.now.article.now in
    let held = c.args.self.now.held.items in
    let id : Held → _ = λ h. h.registered.now.standing.id in
    let entry : Held → Registered = λ h. h.registered.now in
    c.loop-one.invariant ∙ ap (map id)
    (take_all c.loop-one.one-index c.as_slice-held.result.now (omega (arith, c.loop-one-test.false)))
    ∙ ap (map id) c.as_slice-held.ensures.value
    ∙ sym (map-map (λ a. a.query) (alert_due article) (map entry held)
    ∙ map-map (λ (r : Registered). r.standing.id) entry held)

-- found by this tactic: it stands here so that no other is tried before it
pub loop-one-preserved : goal.loop-one-preserved
loop-one-preserved c = grind (arith, common_steps)
