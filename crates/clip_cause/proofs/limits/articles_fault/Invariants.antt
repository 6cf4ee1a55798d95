use Rattle.std.proofs.Common.{◌≡◌, drop, map}
use Rattle.clip_protocol.specs.Steps.Views.{draft_view}
use Rattle.clip_cause.specs.Names.{articles}
use Rattle.clip_cause.specs.Limits.{draft_fault, each_fault}
use Rattle.clip_cause.proofs.limits.articles_fault.Given as goal

abbrev pub invariant-loop-place : goal.invariant-loop-place
invariant-loop-place l = each_fault articles draft_fault l.place (map draft_view (drop l.place l.drafts))
    ≡ each_fault articles draft_fault 0 (map draft_view l.drafts)
