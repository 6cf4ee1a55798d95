use Rattle.std.proofs.Common.{◌≡◌, take}
use Rattle.clip_terms.proofs.asking.Asking.of.Given as goal

abbrev pub invariant-loop-field : goal.invariant-loop-field
invariant-loop-field l = l.fields.items ≡ take l.field-index l.field-items
