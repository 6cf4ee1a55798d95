use Rattle.std.proofs.Common.{◌<◌, arith}
use Rattle.clip_run.specs.declared.crew.TheConstants.{MOST_WAITING}
use Rattle.clip_run.proofs.Waiting.{counted_last}
use Rattle.clip_run.proofs.crew.Crew.let_wait.Goals as goal

pub invariant_of-self-2 : goal.invariant_of-self-2
invariant_of-self-2 g c =
    λ few.
    let i = c.self.inside in
    let before : i.waiting < MOST_WAITING = omega (arith, few, c.saturating_add-self-inside.ensures) in
    let counted = counted_last i.pending.items c.push.new.self.items _ i.waiting c.in_ok-push.ensures.items
    (c.self.invariant before) in
    omega (arith, few, c.saturating_add-self-inside.ensures, counted)
