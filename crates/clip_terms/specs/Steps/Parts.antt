-- Where the words and the fronts of a field stand among terms.
use Rattle.std.specs.Prelude.{List, []}
use Rattle.std.specs.Arc.{arc_str_bytes}
use Rattle.clip_extract.specs.Keys.{KeyValue, Word, Front}
use Rattle.clip_terms.specs.Steps.Leads.{heading, IsPart}
use Rattle.clip_terms.specs.declared.parts.FieldPart.{FieldPart}

-- The part says where the words and the fronts of its field stand among the terms.
pub record IsFieldPart (terms : List KeyValue) (part : FieldPart) : Type 0 where
  pub words : IsPart terms (heading (Word (arc_str_bytes part.field) [])) part.words.start part.words.end
  pub fronts : IsPart terms (heading (Front (arc_str_bytes part.field) [])) part.fronts.start part.fronts.end
