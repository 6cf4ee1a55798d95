use Rattle.std.proofs.Common.{◌≡◌, ◌∙◌, None, is_some, sym, ap}
use Rattle.std.specs.Option.{option_copied, option_map}
use Rattle.std.specs.FinMap as finite
use Rattle.std.specs.Arc.{arc_value}
use Rattle.clip_registry.proofs.Ranking.{none_from}
use Rattle.clip_registry.proofs.Piecing.{removed_none}
use Rattle.clip_registry.proofs.by_id.pieces.remove_in.Goals as goal

pub returns-then-is_none-clause-removed : goal.returns-then-is_none-clause-removed
returns-then-is_none-clause-removed c =
    let q = c.args.id.now in
    let none : None ≡ finite.get c.args.piece.now.value q =
    ap (λ o. option_map arc_value (option_copied o)) (sym (none_from c.get.result c.if-is_none.ensures))
    ∙ c.get.ensures ∙ ap (λ m. finite.get m q) c.deref.ensures in
    removed_none c.args.piece.now.value q (sym (ap is_some none))
