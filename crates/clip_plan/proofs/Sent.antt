-- Threads may hand over and share plans.
use denote.Param.Send.{IsSend, IsSync, view_send, view_sync, sendable}
use denote.Param.SendFields.{declared_send, declared_sync}
use Rattle.std.proofs.alloc.Global.TheSendSync as global_sent
use Rattle.std.below.std_heap.proofs.GlobalAllocator.TheSendSync as allocator_sent
use Rattle.std.proofs.vec.Vec.TheSendSync as vec_sent
use Rattle.clip_grammar.proofs.Sent.{query_send, query_sync}
use Rattle.clip_pieces.proofs.packed.PackedLists.TheSendSync as lists_sent
use Rattle.clip_plan.proofs.outline.Outline.TheSendSync as outline_sent
use Rattle.clip_plan.proofs.step.Step.TheSendSync as step_sent
use Rattle.clip_plan.specs.contracts.plans.Plans as plans
use Rattle.clip_plan.specs.contracts.plans.Plans.TheInside as plans_inside

ruleset global = (sendable, global_sent.the_send, global_sent.the_sync, allocator_sent.the_frees)

pub plans_send : IsSend plans.the_row
plans_send = view_send plans_inside.the_row _ _ _ _
    (declared_send plans_inside.the_type (
      search (global, lists_sent.the_send, step_sent.the_send),
      (
        search (global, lists_sent.the_send),
        (
          search (global, vec_sent.the_send, query_send),
          (search (global, vec_sent.the_send, outline_sent.the_send), tt),
        ),
      ),
    ))

pub plans_sync : IsSync plans.the_row
plans_sync = view_sync plans_inside.the_row _ _ _ _
    (declared_sync plans_inside.the_type (
      search (global, lists_sent.the_sync, step_sent.the_sync),
      (
        search (global, lists_sent.the_sync),
        (
          search (global, vec_sent.the_sync, query_sync),
          (search (global, vec_sent.the_sync, outline_sent.the_sync), tt),
        ),
      ),
    ))
