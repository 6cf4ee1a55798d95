-- Threads may hand over seats, and share a desk.
use mathlib.Core.List.{[], ◌∷◌}
use mir.Syntax.{Dict}
use denote.RattleType.{RattleType}
use denote.Builtin.{bool}
use denote.Struct.Field.{row_field}
use denote.Struct.Tuple.{Tuple, tuple_type}
use denote.Param.Send.{IsSend, IsSync, view_send, view_sync, sendable}
use denote.Param.SendFields.{declared_send, declared_sync, as_row_send}
use Rattle.std.proofs.alloc.Global.TheSendSync as global_sent
use Rattle.std.below.std_heap.proofs.GlobalAllocator.TheSendSync as allocator_sent
use Rattle.std.proofs.vec.Vec.TheSendSync as vec_sent
use Rattle.std.proofs.sync.Mutex.TheSendSync as mutex_sent
use Rattle.left_right.proofs.reader.Reader.TheSendSync as reader_sent
use Rattle.left_right.proofs.writer.Writer.TheSendSync as writer_sent
use Rattle.clip_indexed.specs.declared.index.Index as index
use Rattle.clip_registry.proofs.Sent.{registrar_send, view_is_send, view_is_sync}
use Rattle.clip_desk.proofs.chronicle.SeenHistory.TheSendSync as seen_history_sent
use Rattle.clip_desk.proofs.chronicle.LengthWord.TheSendSync as head_sent
use Rattle.clip_desk.proofs.rights.Right.TheSendSync as right_sent
use Rattle.clip_desk.specs.contracts.published.Published as published
use Rattle.clip_desk.specs.contracts.published.Published.TheInside as published_inside
use Rattle.clip_desk.specs.contracts.published.PublishedAbsorb.TheImpl as absorb
use Rattle.clip_desk.specs.declared.update_listener.UpdateListener as heard
use Rattle.clip_desk.specs.contracts.update_listeners.UpdateListeners as updates
use Rattle.clip_desk.specs.contracts.update_listeners.UpdateListeners.TheInside as updates_inside
use Rattle.clip_desk.specs.declared.locked.DeskName.{Ghosts}
use Rattle.clip_desk.specs.contracts.seat.Seat as seat
use Rattle.clip_desk.specs.contracts.seat.Seat.TheInside as seat_inside
use Rattle.clip_desk.specs.contracts.locked.Locked as locked
use Rattle.clip_desk.specs.contracts.locked.Locked.TheInside as locked_inside
use Rattle.clip_desk.specs.contracts.desk.Desk as desk
use Rattle.clip_desk.specs.contracts.desk.Desk.TheInside as desk_inside

module _ (I : RattleType) (i : index.Ghosts I.Denot) (sent : IsSend I) (shared : IsSync I) where
  published_send : IsSend (published.the_row I i)
  published_send = view_send (published_inside.the_row I i) _ _ _ _
      (declared_send (published_inside.the_type I i)
      (view_is_send I i sent shared, (seen_history_sent.the_send, (search sendable, (search sendable, tt)))))

  published_sync : IsSync (published.the_row I i)
  published_sync = view_sync (published_inside.the_row I i) _ _ _ _
      (declared_sync (published_inside.the_type I i)
      (view_is_sync I i sent shared, (seen_history_sent.the_sync, (search sendable, (search sendable, tt)))))

  ruleset global = (
    sendable,
    global_sent.the_send,
    global_sent.the_sync,
    allocator_sent.the_frees,
    published_send,
    published_sync,
  )

  pub seat_send : IsSend (seat.the_row I i)
  seat_send = view_send (seat_inside.the_row I i) _ _ _ _
      (declared_send (seat_inside.the_type I i) (
        search (global, reader_sent.the_send) depth 20,
        (
          seen_history_sent.the_send,
          (
            search sendable,
            (search sendable, (right_sent.the_send, (search sendable, (search sendable, tt)))),
          ),
        ),
      ))

  module _ (N L : RattleType) (g : Ghosts N.Denot) (h : heard.Ghosts L.Denot) (heard_sent : IsSend L) where
    part_send : IsSend (Tuple (L ∷ bool ∷ []))
    part_send = declared_send (tuple_type (L ∷ bool ∷ [])) (as_row_send (row_field L) heard_sent, (search sendable, tt))

    updates_send : IsSend (updates.the_row L h)
    updates_send = view_send (updates_inside.the_row L h) _ _ _ _
        (declared_send (updates_inside.the_type L h) (search (global, vec_sent.the_send, part_send) depth 20, tt))

    locked_send : (d e : Dict) → IsSend (locked.the_row N I L (absorb.ghosts I i d e) g i h)
    locked_send d e =
        let a = absorb.ghosts I i d e in view_send (locked_inside.the_row N I L a g i h) _ _ _ _
        (declared_send (locked_inside.the_type N I L a g i h) (
          registrar_send I i sent shared,
          (
            search (global, writer_sent.the_send) depth 20,
            (
              head_sent.the_send,
              (
                seen_history_sent.the_send,
                (updates_send, (search sendable, (search global, (search sendable, tt)))),
              ),
            ),
          ),
        ))

    pub desk_sync : IsSync (desk.the_row N I L g i h)
    desk_sync = view_sync (desk_inside.the_row N I L g i h) _ _ _ _
        (declared_sync (desk_inside.the_type N I L g i h) (
          search (global, mutex_sent.the_sync, locked_send),
          (search sendable, (search sendable, tt)),
        ))
