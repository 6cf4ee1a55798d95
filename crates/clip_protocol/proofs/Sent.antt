-- Threads may hand over what was found of an article.
use denote.Param.Send.{IsSend, sendable}
use denote.Param.SendFields.{declared_send, variants_send}
use Rattle.std.proofs.alloc.Global.TheSendSync as global_sent
use Rattle.std.below.std_heap.proofs.GlobalAllocator.TheSendSync as allocator_sent
use Rattle.std.proofs.vec.Vec.TheSendSync as vec_sent
use Rattle.clip_standing.proofs.Sent.{alerts_send}
use Rattle.clip_protocol.proofs.said.AlertsSaid.TheSendSync as said_sent
use Rattle.clip_protocol.specs.contracts.found.Found as found
use Rattle.clip_protocol.specs.contracts.shown.Shown as shown

ruleset global = (sendable, global_sent.the_send, global_sent.the_sync, allocator_sent.the_frees)

shown_send : IsSend shown.the_row
shown_send = declared_send shown.the_type (
  search sendable,
  (search (global, vec_sent.the_send), (said_sent.the_send, tt)),
)

pub found_send : IsSend found.the_row
found_send = variants_send found.enum ((alerts_send, tt), ((shown_send, tt), tt))
