use Rattle.std.proofs.Common.{List, map, sym, subst}
use Rattle.std.specs.List.{All}
use Rattle.std.proofs.lemmas.List.Elements.{All-push}
use Rattle.clip_extract.specs.Keys.{key_of}
use Rattle.clip_terms.specs.Steps.Parts.{IsFieldPart}
use Rattle.clip_terms.specs.declared.parts.FieldPart.{FieldPart}
use Rattle.clip_terms.proofs.parts.parts_of.Goals as goal

pub loop-place-preserved : goal.loop-place-preserved
loop-place-preserved c =
    let is_part = IsFieldPart (map key_of c.args.keys.now) in
    subst (λ (parts : List FieldPart). All is_part parts) (sym c.in_ok-push.ensures.items)
    (All-push is_part c.loop-place.parts.items c.in_ok-part.part c.loop-place.invariant c.in_ok-part.ensures)
