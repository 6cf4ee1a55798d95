use Rattle.std.proofs.Common.{◌≡◌}
use Rattle.serde_json.specs.Find.{as_object}
use Rattle.serde_json.specs.View.{view, members_view}
use Rattle.clip_cause.specs.Shapes.{field_texts, fields_by}
use Rattle.clip_cause.proofs.shape.field_fault.Given as goal

abbrev pub invariant-loop-key : goal.invariant-loop-key
invariant-loop-key l = fields_by (as_object (view l.fields)) ≡ field_texts (members_view l.key-iterator)
