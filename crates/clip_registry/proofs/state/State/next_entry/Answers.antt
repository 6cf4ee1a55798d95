use Rattle.std.proofs.Common.{◌-◌, ◌<◌, arith, length}
use Rattle.clip_model.specs.History.{own}
use Rattle.clip_registry.specs.Steps.State.{state_of}
use Rattle.clip_model.proofs.Counting.{own_length}
use Rattle.clip_registry.proofs.Keeping.{counted}
use Rattle.clip_registry.proofs.state.State.next_entry.Goals as goal

pub overflow_add-number : goal.overflow_add-number
overflow_add-number g c =
    let kept = c.self.invariant.0 in
    let place : c.args.caller - 1 < length c.self.inside.counts.items = let a = kept.callers in let b =
    c.requires.caller_from in let d = c.requires.caller_to in omega arith in
    let x = counted c.self.inside.counts.items (c.args.caller - 1) c.index.result.now
    (length (own (state_of c.self.inside).history c.args.caller)) place c.index.ensures
    (kept.numbers c.args.caller c.requires.caller_from c.requires.caller_to) in
    let few = own_length (state_of c.self.inside).history c.args.caller in
    let short = kept.legal.short in
    omega arith
