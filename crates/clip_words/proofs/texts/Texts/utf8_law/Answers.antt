use Rattle.std.proofs.Common.{string_bytes}
use Rattle.std.proofs.lemmas.Str.{IsUtf8-string_bytes}
use Rattle.clip_words.proofs.PackedTexts.{all_utf8}
use Rattle.clip_words.proofs.texts.Texts.utf8_law.Goals as goal

pub returns : goal.returns
returns c =
    let spans = c.self.inside.spans in
    rw (← c.self.view_is) (all_utf8 (string_bytes spans.all) spans.spans.items (IsUtf8-string_bytes spans.all)
    c.self.invariant)
