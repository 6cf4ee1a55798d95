use Rattle.std.proofs.Common.{Option, sym, ap, ◌∙◌}
use Rattle.std.specs.Prelude.{unwrap_or}
use Rattle.std.specs.Option.{option_map}
use Rattle.std.specs.Arc.{arc_str_bytes}
use Rattle.std.specs.Borrow.{Bor}
use Rattle.std.specs.Global.{Global}
use Rattle.std.specs.declared.sync.ArcStr.{ArcStr}
use Rattle.clip_syntax.proofs.build.OpenGroup.item_field.Goals as goal
use Rattle.clip_syntax.proofs.build.OpenGroup.item_field.Goals.{in-Some, in-None}

pub returns : goal.returns
returns c =
    let bytes = λ (field : Bor (ArcStr Global)). arc_str_bytes field.now in
    let nearest = λ (nearer : Option (ArcStr Global)).
    unwrap_or (option_map arc_str_bytes nearer) (arc_str_bytes c.args.self.now.field) in
    c.in_ok-clone.ensures.cases ∙ elim c.match-self.branch [
      | in-Some w ↦ ap bytes w.field-is ∙ sym (ap nearest w.in-Some.is)
      | in-None w ↦ ap bytes w.field-is ∙ sym (ap nearest w.in-None.is)
    ]
