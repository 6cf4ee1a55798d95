use Rattle.std.proofs.Common.{length, sym, ap, ◌∙◌}
use Rattle.std.specs.Arc.{arc_str_bytes}
use Rattle.std.specs.Str.{chars}
use Rattle.clip_extract.specs.Fronts.{key_front}
use Rattle.clip_extract.specs.Steps.Leaves.{leaf_found}
use Rattle.clip_extract.proofs.FrontsOfWords.{front_weight}
use Rattle.clip_extract.proofs.extraction.leaf_weight.Goals as goal

pub returns-in-Front : goal.returns-in-Front
returns-in-Front c =
    let text = arc_str_bytes c.in-Front.front.now in
    c.characters.ensures ∙ ap (λ bs. length (chars bs)) (c.key_front.ensures ∙ ap key_front c.deref.ensures.value)
    ∙ sym (front_weight (arc_str_bytes c.in-Front.field-0.now) (key_front text))
    ∙ ap (λ leaf. (leaf_found leaf).weight) (sym c.in-Front.is)
