use Rattle.std.proofs.Common.{◌≡◌, drop}
use Rattle.clip_grammar.specs.Tree.{tree_of}
use Rattle.clip_explain.specs.Certain.{holds_in}
use Rattle.clip_explain.proofs.Groups.{group_from, verdicts_of}
use Rattle.clip_explain.proofs.certain.+holds_in.Given as goal

abbrev pub invariant-loop-occur : goal.invariant-loop-occur
invariant-loop-occur l =
    group_from l.enough (verdicts_of l.best (drop l.occur-index l.occur-items)) ≡ holds_in (tree_of l.query) l.best
