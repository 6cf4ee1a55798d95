-- What is kept may go from thread to thread.
use denote.Param.Send.{IsSend, view_send, sendable}
use denote.Param.SendFields.{declared_send}
use Rattle.std.proofs.alloc.Global.TheSendSync as global_sent
use Rattle.std.below.std_heap.proofs.GlobalAllocator.TheSendSync as allocator_sent
use Rattle.std.proofs.vec.Vec.TheSendSync as vec_sent
use Rattle.clip_run.proofs.Sent.{own_registrar_send}
use Rattle.clip_engine.specs.contracts.engine.Engine as engine
use Rattle.clip_engine.specs.contracts.engine.Engine.TheInside as engine_inside
use Rattle.clip_engine.specs.contracts.kept.Kept as kept

ruleset plain = (sendable, global_sent.the_send, allocator_sent.the_frees)

engine_send : IsSend engine.the_row
engine_send = view_send engine_inside.the_row _ _ _ _
    (declared_send engine_inside.the_type (
      search plain,
      (own_registrar_send, (search plain, (search plain, tt))),
    ))

pub kept_send : IsSend kept.the_row
kept_send = declared_send kept.the_type (engine_send, (search (plain, vec_sent.the_send) depth 20, tt))
