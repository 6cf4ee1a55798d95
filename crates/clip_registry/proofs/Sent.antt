-- Threads may hand over and share registrars and views where they may do so with the indexes of segments.
use denote.RattleType.{RattleType}
use denote.Param.Send.{IsSend, IsSync, view_send, view_sync, sendable}
use denote.Param.SendFields.{declared_send, declared_sync}
use Rattle.std.proofs.alloc.Global.TheSendSync as global_sent
use Rattle.std.below.std_heap.proofs.GlobalAllocator.TheSendSync as allocator_sent
use Rattle.std.proofs.string.String.TheSendSync as string_sent
use Rattle.std.proofs.option.Option.TheSendSync as option_sent
use Rattle.std.proofs.sync.Arc.TheSendSync as arc_sent
use Rattle.std.proofs.vec.Vec.TheSendSync as vec_sent
use Rattle.clip_pieces.proofs.list.SharedList.TheSendSync as list_sent
use Rattle.clip_pieces.proofs.shared.Shared.TheSendSync as shared_sent
use Rattle.clip_pieces.proofs.shared_flags.SharedFlags.TheSendSync as flags_sent
use Rattle.clip_indexed.proofs.Sent.{segment_send, segment_sync}
use Rattle.clip_indexed.specs.declared.index.Index.{Ghosts}
use Rattle.clip_indexed.specs.contracts.segment.Segment as segment
use Rattle.clip_standing.proofs.Sent.{entry_send, entry_sync, history_entry_send, history_entry_sync}
use Rattle.clip_registry.proofs.trail.Trail.TheSendSync as trail_sent
use Rattle.clip_registry.specs.contracts.by_id.piece.Piece as piece
use Rattle.clip_registry.specs.contracts.by_id.piece.Piece.TheInside as piece_inside
use Rattle.clip_registry.specs.contracts.by_id.ById as by_id
use Rattle.clip_registry.specs.contracts.by_id.ById.TheInside as by_id_inside
use Rattle.clip_registry.specs.contracts.roster.Roster as roster
use Rattle.clip_registry.specs.contracts.roster.Roster.TheInside as roster_inside
use Rattle.clip_registry.specs.contracts.log.Log as log
use Rattle.clip_registry.specs.contracts.log.Log.TheInside as log_inside
use Rattle.clip_registry.specs.contracts.state.State as state
use Rattle.clip_registry.specs.contracts.state.State.TheInside as state_inside
use Rattle.clip_registry.specs.contracts.registrar.Registrar as registrar
use Rattle.clip_registry.specs.contracts.registrar.Registrar.TheInside as registrar_inside
use Rattle.clip_registry.specs.contracts.view.View as view
use Rattle.clip_registry.specs.contracts.view.View.TheInside as view_inside

ruleset global = (sendable, global_sent.the_send, global_sent.the_sync, allocator_sent.the_frees)

ruleset parts = (
  global,
  vec_sent.the_send,
  vec_sent.the_sync,
  arc_sent.the_send,
  arc_sent.the_sync,
  string_sent.the_send,
  string_sent.the_sync,
  option_sent.the_send,
  option_sent.the_sync,
)

ruleset lists = (parts, list_sent.the_send, list_sent.the_sync, shared_sent.the_send, shared_sent.the_sync)

piece_send : IsSend piece.the_row
piece_send = view_send piece_inside.the_row _ _ _ _
    (declared_send piece_inside.the_type (search (parts, entry_send, entry_sync), tt))

piece_sync : IsSync piece.the_row
piece_sync = view_sync piece_inside.the_row _ _ _ _
    (declared_sync piece_inside.the_type (search (parts, entry_send, entry_sync), tt))

by_id_send : IsSend by_id.the_row
by_id_send = view_send by_id_inside.the_row _ _ _ _
    (declared_send by_id_inside.the_type (search (parts, piece_send, piece_sync), (search global, tt)))

by_id_sync : IsSync by_id.the_row
by_id_sync = view_sync by_id_inside.the_row _ _ _ _
    (declared_sync by_id_inside.the_type (search (parts, piece_send, piece_sync), (search global, tt)))

roster_send : IsSend roster.the_row
roster_send = view_send roster_inside.the_row _ _ _ _
    (declared_send roster_inside.the_type (by_id_send, (search global, tt)))

roster_sync : IsSync roster.the_row
roster_sync = view_sync roster_inside.the_row _ _ _ _
    (declared_sync roster_inside.the_type (by_id_sync, (search global, tt)))

log_send : IsSend log.the_row
log_send = view_send log_inside.the_row _ _ _ _
    (declared_send log_inside.the_type (
      trail_sent.the_send,
      (
        search global,
        (
          search (lists, history_entry_send, history_entry_sync),
          (search (lists, history_entry_send, history_entry_sync), tt),
        ),
      ),
    ))

log_sync : IsSync log.the_row
log_sync = view_sync log_inside.the_row _ _ _ _
    (declared_sync log_inside.the_type (
      trail_sent.the_sync,
      (
        search global,
        (
          search (lists, history_entry_send, history_entry_sync),
          (search (lists, history_entry_send, history_entry_sync), tt),
        ),
      ),
    ))

module _ (I : RattleType) (g : Ghosts I.Denot) (sent : IsSend I) (shared : IsSync I) where
  one_send : IsSend (segment.the_row I g)
  one_send = segment_send I g sent

  one_sync : IsSync (segment.the_row I g)
  one_sync = segment_sync I g shared

  state_send : IsSend (state.the_row I g)
  state_send = view_send (state_inside.the_row I g) _ _ _ _
      (declared_send (state_inside.the_type I g) (
        search (parts, one_send, one_sync),
        (log_send, (roster_send, (search parts, (search (lists, flags_sent.the_send, flags_sent.the_sync), tt)))),
      ))

  state_sync : IsSync (state.the_row I g)
  state_sync = view_sync (state_inside.the_row I g) _ _ _ _
      (declared_sync (state_inside.the_type I g) (
        search (parts, one_send, one_sync),
        (log_sync, (roster_sync, (search parts, (search (lists, flags_sent.the_send, flags_sent.the_sync), tt)))),
      ))

  pub registrar_send : IsSend (registrar.the_row I g)
  registrar_send = view_send (registrar_inside.the_row I g) _ _ _ _
      (declared_send (registrar_inside.the_type I g) (
        search global,
        (search global, (search (parts, state_send, state_sync), tt)),
      ))

  pub registrar_sync : IsSync (registrar.the_row I g)
  registrar_sync = view_sync (registrar_inside.the_row I g) _ _ _ _
      (declared_sync (registrar_inside.the_type I g) (
        search global,
        (search global, (search (parts, state_send, state_sync), tt)),
      ))

  pub view_is_send : IsSend (view.the_row I g)
  view_is_send = view_send (view_inside.the_row I g) _ _ _ _
      (declared_send (view_inside.the_type I g) (search global, (search (parts, state_send, state_sync), tt)))

  pub view_is_sync : IsSync (view.the_row I g)
  view_is_sync = view_sync (view_inside.the_row I g) _ _ _ _
      (declared_sync (view_inside.the_type I g) (search global, (search (parts, state_send, state_sync), tt)))
