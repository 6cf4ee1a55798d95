use Rattle.std.proofs.Common.{◌≡◌, ◌∙◌, [], refl, map, subst, ap}
use Rattle.std.specs.FinMap as finite
use Rattle.std.specs.Arc.{arc_value}
use Rattle.clip_registry.specs.Steps.Pieces.{IsPlaceFor, joined}
use Rattle.clip_registry.proofs.Joining.{Shared, got_from_all, got_from_none, shared_within}
use Rattle.clip_registry.proofs.by_id.ById.get.Goals as goal
use Rattle.clip_registry.proofs.by_id.ById.get.Goals.{In-Some}

at : (c : In-Some) → IsPlaceFor c.args.id.now (map arc_value c.self.inside.pieces.items) c.in-Some.place
at c = subst (λ (xs : Shared). IsPlaceFor c.args.id.now (map arc_value xs) c.in-Some.place) c.deref.ensures.value
    c.in-Some.ensures.found

pub index-requires : goal.index-requires
index-requires c = rw c.self.inside.pieces.ok.0
    (shared_within c.args.id.now c.self.inside.pieces.items c.in-Some.place (at c))

pub returns-in-Some : goal.returns-in-Some
returns-in-Some c =
    c.get.ensures ∙ ap (λ m. finite.get m c.args.id.now) c.deref-in-Some.ensures
    ∙ got_from_all c.args.id.now c.self.inside.pieces.items c.in-Some.place c.index.result.now
    c.self.invariant.0.sorted (at (goal.at.returns-in-Some c).In-Some) c.index.ensures
    ∙ ap (λ m. finite.get m c.args.id.now) c.self.view_is

pub returns-in-None : goal.returns-in-None
returns-in-None c =
    got_from_none c.args.id.now (map arc_value c.self.inside.pieces.items)
    (ap joined (subst (λ (xs : Shared). map arc_value xs ≡ []) c.deref.ensures.value (c.in-None.ensures.none refl)))
    ∙ ap (λ m. finite.get m c.args.id.now) c.self.view_is
