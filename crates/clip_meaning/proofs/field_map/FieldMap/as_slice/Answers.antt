use Rattle.std.proofs.Common.{◌∙◌}
use Rattle.clip_meaning.proofs.Fields.{kept_entries}
use Rattle.clip_meaning.proofs.field_map.FieldMap.as_slice.Goals as goal

pub returns : goal.returns
returns c = c.deref.ensures.value ∙ kept_entries _ _ c.self.invariant c.self.view_is
