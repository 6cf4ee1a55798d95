-- Threads may hand over and share segments where they may do so with their indexes.
use denote.RattleType.{RattleType}
use denote.Struct.Field.{row_field}
use denote.Param.Send.{IsSend, IsSync, view_send, view_sync, sendable}
use denote.Param.SendFields.{declared_send, declared_sync, as_row_send, as_row_sync}
use Rattle.std.proofs.alloc.Global.TheSendSync as global_sent
use Rattle.std.below.std_heap.proofs.GlobalAllocator.TheSendSync as allocator_sent
use Rattle.std.proofs.sync.Arc.TheSendSync as arc_sent
use Rattle.std.proofs.vec.Vec.TheSendSync as vec_sent
use Rattle.clip_standing.proofs.Sent.{entry_send, entry_sync}
use Rattle.clip_indexed.specs.declared.index.Index.{Ghosts}
use Rattle.clip_indexed.specs.contracts.segment.Segment as segment
use Rattle.clip_indexed.specs.contracts.segment.Segment.TheInside as segment_inside

ruleset global = (sendable, global_sent.the_send, global_sent.the_sync, allocator_sent.the_frees)

module _ (I : RattleType) (g : Ghosts I.Denot) where
  pub segment_send : IsSend I → IsSend (segment.the_row I g)
  segment_send send = view_send (segment_inside.the_row I g) _ _ _ _
      (declared_send (segment_inside.the_type I g) (
        search (global, vec_sent.the_send, arc_sent.the_send, entry_send, entry_sync),
        (search (global, vec_sent.the_send), (as_row_send (row_field I) send, tt)),
      ))

  pub segment_sync : IsSync I → IsSync (segment.the_row I g)
  segment_sync sync = view_sync (segment_inside.the_row I g) _ _ _ _
      (declared_sync (segment_inside.the_type I g) (
        search (global, vec_sent.the_sync, arc_sent.the_sync, entry_send, entry_sync),
        (search (global, vec_sent.the_sync), (as_row_sync (row_field I) sync, tt)),
      ))
