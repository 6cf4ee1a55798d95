use Rattle.std.proofs.Common.{◌≡◌, ◌∙◌, List, sym, subst, ap}
use Rattle.std.specs.FinMap as finite
use Rattle.clip_model.specs.History.{Registry}
use Rattle.clip_registry.specs.Steps.Pieces.{AreInOrder, map_of}
use Rattle.clip_standing.proofs.Clones.{map_shared}
use Rattle.clip_registry.proofs.by_id.ByIdClone.clone.Goals as goal

pub invariant_of-result : goal.invariant_of-result
invariant_of-result c =
    subst (λ (ms : List Registry). AreInOrder ms × (c.self.inside.len ≡ finite.len (map_of ms)))
    (sym (map_shared c.self.inside.pieces.items c.in_ok-clone.field-0.items c.in_ok-clone.ensures.cases.0))
    c.self.invariant

pub returns : goal.returns
returns c = record {
  cases = ap map_of (map_shared c.self.inside.pieces.items c.in_ok-clone.field-0.items c.in_ok-clone.ensures.cases.0)
      ∙ c.self.view_is;
}
