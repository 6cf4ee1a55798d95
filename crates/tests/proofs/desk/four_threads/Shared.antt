-- Threads may share a room, and hand over a closure that borrows one.
use mathlib.Core.List.{[], ◌∷◌}
use mir.Syntax.{Sym}
use denote.RattleType.{RattleType}
use denote.Param.{param}
use denote.Param.Send.{IsSend, IsSync, shr_send, sendable}
use denote.Param.SendFields.{declared_send, declared_sync, as_row_send}
use denote.Ref.{NamedLft}
use denote.Struct.Field.{row_field, shr_ref_field}
use denote.Struct.Tuple.{TupleAt, type_at}
use Rattle.std.proofs.alloc.Global.TheSendSync as global_sent
use Rattle.std.below.std_heap.proofs.GlobalAllocator.TheSendSync as allocator_sent
use Rattle.crossbeam_channel.proofs.channel.Sender.TheSendSync as sender_sent
use Rattle.crossbeam_channel.proofs.channel.Receiver.TheSendSync as receiver_sent
use Rattle.clip_segment.specs.contracts.labelled_index.LabelledIndex as labelled_index
use Rattle.clip_segment.specs.contracts.labelled_index.LabelledIndexIndex.TheImpl as index_impl
use Rattle.clip_segment.proofs.Sent.{labelled_index_send, labelled_index_sync}
use Rattle.clip_desk.specs.contracts.update_listener.UpdateLog as log
use Rattle.clip_desk.specs.contracts.update_listener.UpdateLogUpdateListener.TheImpl as log_impl
use Rattle.clip_desk.proofs.update_listener.UpdateLog.TheSendSync as log_sent
use Rattle.clip_desk.specs.declared.locked.DeskName.{Ghosts}
use Rattle.clip_desk.specs.contracts.seat.Seat as seat
use Rattle.clip_desk.proofs.Sent as sent
use Rattle.clip_desk.proofs.desk_merging.Nudge.TheSendSync as nudge_sent
use Rattle.clip_desk.proofs.seat.Receipt.TheSendSync as receipt_sent
use Rattle.tests.specs.contracts.desk.room.Handed as handed
use Rattle.tests.specs.contracts.desk.room.Way as way
use Rattle.tests.specs.contracts.desk.room.Room as room
use Rattle.tests.proofs.desk.room.Plan.TheSendSync as plan_sent

ruleset global = (
  sendable,
  global_sent.the_send,
  global_sent.the_sync,
  allocator_sent.the_frees,
  nudge_sent.the_send,
  nudge_sent.the_sync,
)

abbrev pub seat_row : RattleType
seat_row = seat.the_row labelled_index.the_row index_impl.ghosts

pub seat_send : IsSend seat_row
seat_send = sent.seat_send labelled_index.the_row index_impl.ghosts labelled_index_send labelled_index_sync

-- a closure of two captures
two_send : (name : Sym) (A B : RattleType) → IsSend A → IsSend B → IsSend (TupleAt name (A ∷ B ∷ []))
two_send name A B a b = declared_send (type_at name (A ∷ B ∷ [])) (
  as_row_send (row_field A) a,
  (as_row_send (row_field B) b, tt),
)

-- a closure of three captures
three_send : (name : Sym) (A B C : RattleType) → IsSend A → IsSend B → IsSend C
    → IsSend (TupleAt name (A ∷ B ∷ C ∷ []))
three_send name A B C a b c =
    declared_send (type_at name (A ∷ B ∷ C ∷ [])) (
      as_row_send (row_field A) a,
      (as_row_send (row_field B) b, (as_row_send (row_field C) c, tt)),
    )

module _ (N : RattleType) (g : Ghosts N.Denot) where
  handed_send : IsSend (handed.the_row N g)
  handed_send = declared_send (handed.the_type N g) (receipt_sent.the_send, (search sendable, tt))

  way_sync : IsSync (way.the_row N g)
  way_sync = declared_sync (way.the_type N g) (
    search (global, sender_sent.the_sync, handed_send) depth 20,
    (search (global, receiver_sent.the_sync, handed_send) depth 20, tt),
  )

  pub room_sync : IsSync (room.the_row N g)
  room_sync = declared_sync (room.the_type N g) (
    search global,
    (
      sent.desk_sync labelled_index.the_row index_impl.ghosts labelled_index_send labelled_index_sync N log.the_row g
          log_impl.ghosts log_sent.the_send,
      (
        search (global, sender_sent.the_sync) depth 20,
        (
          search (global, receiver_sent.the_sync) depth 20,
          (search (global, plan_sent.the_sync), (way_sync, (way_sync, tt))),
        ),
      ),
    ),
  )

  -- what a thread borrows: what all threads run on, and the room
  abbrev rt_row : (R : RattleType) → NamedLft → RattleType
  rt_row R a = (shr_ref_field a (param 1 R) tt).row

  abbrev shared_row : NamedLft → RattleType
  shared_row a = (shr_ref_field a (room.the_row N g) tt).row

  rt_send : (R : RattleType) (a : NamedLft) → IsSync (param 1 R) → IsSend (rt_row R a)
  rt_send R a = shr_send a.mir a.lft (param 1 R)

  shared_send : (a : NamedLft) → IsSend (shared_row a)
  shared_send a = shr_send a.mir a.lft (room.the_row N g) room_sync

  -- a closure that borrows both
  pub work_send : (name : Sym) (R : RattleType) (a b : NamedLft) → IsSync (param 1 R)
      → IsSend (TupleAt name (rt_row R a ∷ shared_row b ∷ []))
  work_send name R a b sync = two_send name (rt_row R a) (shared_row b) (rt_send R a sync) (shared_send b)

  -- a closure that borrows both and has a seat
  pub seat_work_send : (name : Sym) (R : RattleType) (a b : NamedLft) → IsSync (param 1 R)
      → IsSend (TupleAt name (rt_row R a ∷ shared_row b ∷ seat_row ∷ []))
  seat_work_send name R a b sync =
      three_send name (rt_row R a) (shared_row b) seat_row (rt_send R a sync) (shared_send b) seat_send
