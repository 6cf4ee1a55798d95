-- Threads may hand over folders of a wording that they may hand over.
use denote.RattleType.{RattleType}
use denote.Struct.Field.{row_field}
use denote.Param.Send.{IsSend, sendable}
use denote.Param.SendFields.{declared_send, as_row_send}
use Rattle.std.proofs.alloc.Global.TheSendSync as global_sent
use Rattle.std.below.std_heap.proofs.GlobalAllocator.TheSendSync as allocator_sent
use Rattle.std.proofs.sync.ArcStr.TheSendSync as arc_str_sent
use Rattle.std.proofs.vec.Vec.TheSendSync as vec_sent
use Rattle.clip_standing.proofs.Sent.{alert_send}
use Rattle.clip_listen.specs.declared.render.Wording.{Ghosts}
use Rattle.clip_listen.specs.contracts.style.Style as style
use Rattle.clip_listen.specs.contracts.render.StyleWording.TheImpl as style_wording
use Rattle.clip_listen.specs.contracts.render.Render as render
use Rattle.clip_listen.specs.contracts.listener.Folder as folder

ruleset global = (sendable, global_sent.the_send, global_sent.the_sync, allocator_sent.the_frees)

style_send : IsSend style.the_row
style_send = declared_send style.the_type (
  search (global, arc_str_sent.the_send),
  (search (global, arc_str_sent.the_send), tt),
)

module _ (W : RattleType) (g : Ghosts W.Denot) (sent : IsSend W) where
  pub render_send : IsSend (render.the_row W g)
  render_send = declared_send (render.the_type W g) (style_send, (as_row_send (row_field W) sent, tt))

  pub folder_send : IsSend (folder.the_row W g)
  folder_send = declared_send (folder.the_type W g) (render_send, (search (global, vec_sent.the_send, alert_send), tt))

pub style_render_send : IsSend (render.the_row style.the_row style_wording.ghosts)
style_render_send = render_send _ _ style_send

pub style_folder_send : IsSend (folder.the_row style.the_row style_wording.ghosts)
style_folder_send = folder_send _ _ style_send
