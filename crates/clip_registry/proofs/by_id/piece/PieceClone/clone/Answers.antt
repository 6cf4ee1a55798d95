use Rattle.std.proofs.Common.{◌∙◌, T, sym, ap, subst}
use Rattle.std.specs.FinMap as finite
use Rattle.clip_words.specs.Order.{bytes_cmp}
use Rattle.clip_registry.proofs.Piecing.{keyed_clones}
use Rattle.clip_registry.proofs.by_id.piece.PieceClone.clone.Goals as goal

pub invariant_of-result : goal.invariant_of-result
invariant_of-result c =
    subst (λ es. T (finite.is_sorted bytes_cmp es))
    (sym (keyed_clones c.self.inside.entries.items c.in_ok-clone.field-0.items c.in_ok-clone.ensures.cases.0))
    c.self.invariant

pub returns : goal.returns
returns c = record {
  cases = ap (λ es. finite.from_sorted es)
      (keyed_clones c.self.inside.entries.items c.in_ok-clone.field-0.items c.in_ok-clone.ensures.cases.0)
      ∙ c.self.view_is;
}
