use Rattle.std.proofs.Common.{◌∙◌, ap, map, option_map, subst}
use Rattle.clip_meaning.specs.Hits.{hit_value}
use Rattle.clip_model.specs.Alerts.{Alert}
use Rattle.clip_standing.specs.Steps.FoundHits.{AreFound}
use Rattle.clip_standing.proofs.Clones.{map_clones}
use Rattle.clip_standing.proofs.view.AlertView.hits.Goals as goal

-- the copies are of the hits that were found
pub returns-in_ok-to_vec-in-Some : goal.returns-in_ok-to_vec-in-Some
returns-in_ok-to_vec-in-Some c =
    let v = c.self.inside in
    map_clones _ hit_value (λ x y e i. (e.0 i, e.1 i)) c.in-Some.hits.now c.in_ok-to_vec-in-Some.field-0.items
    c.in_ok-to_vec-in-Some.ensures.ok
    ∙ subst (λ found. AreFound v.standing.now.value v.article.now (option_map (λ hits. map hit_value hits.now) found))
    c.in-Some.is c.self.invariant
    ∙ ap (λ (a : Alert). a.hits) c.self.view_is
