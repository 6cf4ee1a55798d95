-- A text that is looked for, as contracts see it.
use Rattle.std.specs.Prelude.{ℕ, List}
use Rattle.std.specs.Arc.{arc_str_bytes}
use Rattle.clip_terms.specs.declared.leads.SoughtText.{SoughtText}
use Rattle.clip_terms.specs.declared.leads.SoughtText.TheVariants as variant

abbrev pub text_sought : SoughtText → List ℕ
text_sought (variant.Text text) = text.now
text_sought (variant.Word word) = arc_str_bytes word.now
