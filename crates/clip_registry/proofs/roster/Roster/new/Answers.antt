use Rattle.std.proofs.Common.{sym, subst}
use Rattle.clip_model.specs.Steps.Numbered.{IsNumbered}
use Rattle.clip_model.proofs.Numbering.{numbered_empty}
use Rattle.clip_registry.proofs.roster.Roster.new.Goals as goal

pub invariant_of-result : goal.invariant_of-result
invariant_of-result c = subst (IsNumbered c.args.listed) (sym c.new.ensures) (numbered_empty c.args.listed)
