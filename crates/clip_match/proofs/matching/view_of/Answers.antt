use Rattle.std.proofs.Common.{◌-◌, IfSome, map, take, drop, sym, ap, subst, ◌∙◌}
use Rattle.std.proofs.lemmas.List.{take-map, drop-map}
use Rattle.clip_meaning.specs.Hits.{hit_value, hits}
use Rattle.clip_model.specs.Standing.{Standing}
use Rattle.clip_match.specs.Due.{StandAt}
use Rattle.clip_match.proofs.matching.view_of.Goals as goal

-- the hits that stand at the places are those of the query
pub of-requires : goal.of-requires
of-requires c =
    let places = c.in-Some.field-0 in
    let count = places.end - places.start in
    let all = c.args.all_hits.now in
    let fields = c.args.article.now.fields in
    let at = subst (λ o. IfSome o (StandAt (map hit_value all)
    (hits c.args.held.now.registered.now.standing.tree fields))) c.in-Some.is c.requires in
    sym (take-map hit_value count (drop places.start all))
    ∙ ap (take count) (sym (drop-map hit_value places.start all))
    ∙ at.are
    ∙ ap (λ (standing : Standing). hits standing.tree fields) (sym c.standing-standing.ensures)
