use Rattle.std.proofs.Common.{◌≡◌, ◌∙◌, [], drop, fold, sym, ap, subst, Some}
use Rattle.left_right.specs.Sides.{view}
use Rattle.clip_desk.specs.Published.{PublishedIs}
use Rattle.clip_desk.specs.Ends.{Continues, Sees}
use Rattle.clip_desk.proofs.EndSteps.{turns, last_decides, both_ways}
use Rattle.clip_desk.proofs.ends.publish.Goals as goal

pub publish_as-requires : goal.publish_as-requires
publish_as-requires g c next is =
    let now = c.append.new.self.desk.shown.value in
    let same : next ≡ c.args.next = is ∙ ap (fold (λ (x y : PublishedIs). y) now) c.in-Ok.ensures.pending
    ∙ last_decides now (drop c.args.writer.behind c.args.writer.log.items) c.args.next in
    let before : Continues now c.args.next =
    subst (λ (x : PublishedIs). Continues x c.args.next) (ap (λ d. d.shown.value) (sym c.in-Ok.ensures.desk))
    c.requires in
    turns _ _ now next (subst (Continues now) (sym same) before)

pub returns : goal.returns
returns g c =
    let mid = c.append.new.self in
    let out = c.publish_as.result.0 in
    let decided = ap (fold (λ (x y : PublishedIs). y) mid.desk.shown.value) c.in-Ok.ensures.pending
    ∙ last_decides mid.desk.shown.value (drop c.args.writer.behind c.args.writer.log.items) c.args.next in
    both_ways
    (λ _. (out.desk.shown.value ≡ fold (λ (x y : PublishedIs). y) mid.desk.shown.value (drop mid.behind mid.log.items))
    × (drop out.behind out.log.items ≡ []))
    (λ _. Sees (view mid.desk.place) mid.desk.shown.value out.desk.shown.value (view out.desk.place))
    (λ _. (out.desk.shown.value ≡ c.args.next) × (view out.desk.place ≡ Some c.args.next))
    (λ _. (out.desk.shown.value ≡ mid.desk.shown.value)
    × (drop out.behind out.log.items ≡ drop mid.behind mid.log.items))
    (λ _. view out.desk.place ≡ view mid.desk.place)
    (λ _. (out.desk.shown.value ≡ c.args.writer.desk.shown.value)
    × (view out.desk.place ≡ view c.args.writer.desk.place))
    c.publish_as.result.1 c.publish_as.ensures.values c.publish_as.ensures.rule
    (λ _ p q. (p.0 ∙ decided, q.0 ∙ ap Some (p.0 ∙ decided)))
    (λ _ p q. (p.0 ∙ ap (λ d. d.shown.value) c.in-Ok.ensures.desk, q ∙ ap (λ d. view d.place) c.in-Ok.ensures.desk))
