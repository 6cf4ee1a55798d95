use Rattle.std.proofs.Common.{length}
use Rattle.clip_remarks.proofs.token_rules.+is_named.Given as goal

abbrev pub decreases-is_named : goal.decreases-is_named
decreases-is_named l = length l.name.now
