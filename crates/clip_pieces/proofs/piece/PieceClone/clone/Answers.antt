use Rattle.std.proofs.Common.{◌++◌, ap, ◌∙◌}
use Rattle.std.proofs.lemmas.List.Elements.{same_from_all_zip}
use Rattle.clip_pieces.proofs.piece.PieceClone.clone.Goals as goal

-- clones that are exact are the items
pub returns : goal.returns
returns g c =
    let made = c.in_ok-extend_with_clones.ensures.items in
    record {
      cases =
          made.1 ∙ ap (λ items. items ++ made.0) c.in_ok-items.ensures.items
          ∙ same_from_all_zip g.T.Clone.is_clone c.deref.result.now made.0 made.2 g.met.T.Exact.exact
          ∙ c.deref.ensures.value ∙ c.self.view_is;
    }
