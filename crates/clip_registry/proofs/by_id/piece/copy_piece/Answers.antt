use Rattle.std.proofs.Common.{◌∙◌, T, map, sym, ap, subst}
use Rattle.std.specs.FinMap as finite
use Rattle.clip_words.specs.Order.{bytes_cmp}
use Rattle.clip_registry.specs.Steps.Pieces.{keyed}
use Rattle.clip_registry.proofs.Piecing.{keyed_clones}
use Rattle.clip_registry.proofs.by_id.piece.copy_piece.Goals as goal

pub invariant_of-result : goal.invariant_of-result
invariant_of-result c =
    subst (λ es. T (finite.is_sorted bytes_cmp es))
    (sym (keyed_clones c.args.entries.now c.in_ok-to_vec.field-0.items c.in_ok-to_vec.ensures.ok)) c.requires

pub returns : goal.returns
returns c =
    let same = keyed_clones c.args.entries.now c.in_ok-to_vec.field-0.items c.in_ok-to_vec.ensures.ok in
    ap (λ es. finite.entries (finite.from_sorted {R = bytes_cmp} es)) same
    ∙ finite.entries-from_sorted bytes_cmp (map keyed c.args.entries.now) c.requires
