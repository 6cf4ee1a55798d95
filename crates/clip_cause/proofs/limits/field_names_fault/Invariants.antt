use Rattle.std.proofs.Common.{◌≡◌, drop}
use Rattle.clip_meaning.specs.Article.{pairs_of}
use Rattle.clip_cause.specs.Limits.{field_names_fault}
use Rattle.clip_cause.proofs.limits.field_names_fault.Given as goal

abbrev pub invariant-loop-name : goal.invariant-loop-name
invariant-loop-name l = field_names_fault (pairs_of (drop l.name-index l.pairs)) ≡ field_names_fault (pairs_of l.pairs)
