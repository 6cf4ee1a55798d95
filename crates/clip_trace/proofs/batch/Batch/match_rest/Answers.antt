use Rattle.std.proofs.Common.{◌≡◌, List, sym, ap, subst, ◌∙◌, map, take, drop, length}
use Rattle.clip_match.specs.Alerts.{alerts_due}
use Rattle.clip_standing.specs.Alerts.{alerts_value}
use Rattle.clip_standing.specs.declared.alert.Alerts.{Alerts}
use Rattle.clip_trace.proofs.Found.{from_place, with_rest}
use Rattle.clip_trace.proofs.batch.Batch.match_rest.Goals as goal

pub invariant_of-self-2 : goal.invariant_of-self-2
invariant_of-self-2 c =
    let articles = c.self.inside.articles.items in
    let due = alerts_due c.self.inside.view in
    let rest : map alerts_value c.in_ok-found.found.items ≡ map due (drop (length c.self.inside.found.items) articles) =
    c.in_ok-found.ensures ∙ ap (map due)
    (from_place c.len.result (length c.self.inside.found.items) articles c.deref.result.now c.deref.ensures.value
    (c.len.ensures ∙ c.self.inside.found.ok.0)) in
    subst (λ (found : List Alerts). map alerts_value found ≡ map due (take (length found) articles))
    (sym c.in_ok-append.ensures.items)
    (with_rest alerts_value due c.self.inside.found.items c.in_ok-found.found.items articles c.self.invariant rest)
