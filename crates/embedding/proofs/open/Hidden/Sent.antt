-- The listeners that keep what they hear may be handed over.
use denote.Param.Send.{IsSend, sendable}
use denote.Param.SendFields.{declared_send}
use denote.Param.Sent.{Sends}
use Rattle.std.proofs.alloc.Global.TheSendSync as global_sent
use Rattle.std.below.std_heap.proofs.GlobalAllocator.TheSendSync as allocator_sent
use Rattle.std.proofs.vec.Vec.TheSendSync as vec_sent
use Rattle.clip_standing.proofs.Sent.{alert_send}
use Rattle.clip_listen.proofs.Sent.{style_render_send, style_folder_send}
use Rattle.embedding.specs.contracts.desk.Desk as desk
use Rattle.embedding.proofs.open.OwnLists as own

ruleset global = (sendable, global_sent.the_send, global_sent.the_sync, allocator_sent.the_frees)

desk_send : IsSend desk.the_row
desk_send = declared_send desk.the_type (style_render_send, (search (global, vec_sent.the_send, alert_send), tt))

pub sends-part-1-1 : Sends own.part-1-1
sends-part-1-1 = search (sendable, desk_send)

pub sends-part-1-3 : Sends own.part-1-3
sends-part-1-3 = search (sendable, style_folder_send)
