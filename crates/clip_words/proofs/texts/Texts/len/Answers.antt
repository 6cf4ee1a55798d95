use Rattle.std.proofs.Common.{string_bytes, arith}
use Rattle.std.proofs.lemmas.List.{length-map}
use Rattle.clip_words.specs.Steps.TextsView.{text_in}
use Rattle.clip_words.proofs.texts.Texts.len.Goals as goal

pub returns : goal.returns
returns c =
    let spans = c.self.inside.spans in
    let long = length-map spans.spans.items (text_in (string_bytes spans.all)) in
    let fits = spans.spans.ok.0 in
    rw (← c.self.view_is) (omega (arith, long, fits, c.len.ensures))
