use Rattle.std.proofs.Common.{◌≡◌, List, map, length, sym, ap, ◌∙◌, subst}
use Rattle.std.specs.List.{each_same}
use Rattle.clip_pieces.specs.Pieces.{joined, AreFilled}
use Rattle.clip_pieces.proofs.parts.PartsClone.clone.Goals as goal

pub invariant_of-result : goal.invariant_of-result
invariant_of-result g c =
    subst (λ (parts : List g.row.P.Denot). AreFilled g.P.Part.FULL (map g.P.Part.items parts)
    × (c.self.inside.len ≡ length (joined (map g.P.Part.items parts))))
    (sym (each_same c.self.inside.parts.items c.in_ok-clone.field-0.items c.in_ok-clone.ensures.cases.0))
    c.self.invariant

pub returns : goal.returns
returns g c = record {
  cases = ap (λ (parts : List g.row.P.Denot). joined (map g.P.Part.items parts))
      (each_same c.self.inside.parts.items c.in_ok-clone.field-0.items c.in_ok-clone.ensures.cases.0) ∙ c.self.view_is;
}
