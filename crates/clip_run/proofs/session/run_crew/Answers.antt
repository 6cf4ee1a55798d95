use mathlib.Core.List.{[], ◌∷◌}
use mir.Syntax.{Sym, named}
use denote.RattleType.{RattleType}
use denote.Exit.{no}
use denote.Param.{param}
use denote.Param.Send.{IsSend, IsSync, param_send, arg_send, sendable}
use denote.Param.SendFields.{declared_send, as_row_send}
use denote.Struct.Field.{row_field, shr_ref_field}
use denote.Struct.Tuple.{TupleAt, type_at}
use Rattle.std.proofs.Common.{ap, ◌∙◌}
use Rattle.std.specs.contracts.alloc.Global as global
use Rattle.std.specs.contracts.impls.GlobalAllocator.TheImpl as global_allocator
use Rattle.std.proofs.alloc.Global.TheSendSync as global_sent
use Rattle.std.below.std_heap.proofs.GlobalAllocator.TheSendSync as allocator_sent
use Rattle.crossbeam_channel.specs.contracts.channel.Receiver as receiver
use Rattle.crossbeam_channel.proofs.channel.Receiver.TheSendSync as receiver_sent
use Rattle.clip_segment.specs.contracts.labelled_index.LabelledIndex as labelled_index
use Rattle.clip_segment.specs.contracts.labelled_index.LabelledIndexIndex.TheImpl as index_impl
use Rattle.clip_segment.proofs.Sent.{labelled_index_send, labelled_index_sync}
use Rattle.clip_desk.specs.contracts.update_listener.UpdateLog as log
use Rattle.clip_desk.specs.contracts.update_listener.UpdateLogUpdateListener.TheImpl as log_impl
use Rattle.clip_desk.proofs.update_listener.UpdateLog.TheSendSync as log_sent
use Rattle.clip_desk.specs.contracts.desk.Desk as desk
use Rattle.clip_desk.specs.contracts.desk_merging.Nudge as nudge
use Rattle.clip_desk.proofs.Sent.{desk_sync}
use Rattle.clip_desk.proofs.desk_merging.Nudge.TheSendSync as nudge_sent
use Rattle.clip_run.proofs.Outcomes.{ran_none, refused_is}
use Rattle.clip_run.proofs.session.run_crew.Goals as goal

-- a closure of three captures
captures_send : (name : Sym) (A B C : RattleType) → IsSend A → IsSend B → IsSend C
    → IsSend (TupleAt name (A ∷ B ∷ C ∷ []))
captures_send name A B C a b c =
    declared_send (type_at name (A ∷ B ∷ C ∷ [])) (
      as_row_send (row_field A) a,
      (as_row_send (row_field B) b, (as_row_send (row_field C) c, tt)),
    )

pub returns-in_err-nudges : goal.returns-in_err-nudges
returns-in_err-nudges g c =
    ran_none _ (λ ended. ended.lines) (λ ended. ended.ledger) c.args.crew.settings _ c.from_residual.result
    (refused_is c.from_residual.result c.from_residual.ensures.1) c.requires.fresh.unread

pub join_mut-lines-requires-send-F : goal.join_mut-lines-requires-send-F
join_mut-lines-requires-send-F g c κs within =
    let N = param 1 g.row.N in
    let shared = desk.the_row N labelled_index.the_row log.the_row g.N.DeskName index_impl.ghosts log_impl.ghosts in
    let synced : IsSync shared =
    desk_sync labelled_index.the_row index_impl.ghosts labelled_index_send labelled_index_sync
    N log.the_row g.N.DeskName log_impl.ghosts log_sent.the_send in
    let ends = receiver.the_row nudge.the_row global.the_row global_allocator.ghosts in
    let desk_row = (shr_ref_field (record { mir = named 8; lft = κs.1.1.1.1.1.1.1.1.0 }) shared tt).row in
    let rt = (shr_ref_field (record { mir = named 9; lft = κs.1.1.1.1.1.1.1.1.1.0 }) (param 0 g.row.R) tt).row in
    let nudged = (shr_ref_field (record { mir = named 10; lft = κs.1.1.1.1.1.1.1.1.1.1.0 }) ends tt).row in
    param_send 1 _
    (arg_send _ no _
    (captures_send _ desk_row rt nudged
    (search (sendable, synced)) (search (sendable, c.type_bounds.sync-R))
    (search (
      sendable,
      global_sent.the_send,
      global_sent.the_sync,
      allocator_sent.the_frees,
      nudge_sent.the_send,
      nudge_sent.the_sync,
      receiver_sent.the_sync,
    ) depth 12)))

pub join_mut-lines-requires-after_bounds : goal.join_mut-lines-requires-after_bounds
join_mut-lines-requires-after_bounds g c κs within =
    let bounds = c.type_bounds in
    let new = c.telling_crew-telling.ensures in (
      tt,
      (
        bounds.static-G,
        (
          (
            search (sendable, bounds.sync-R),
            search (sendable, bounds.sync-G),
            param_send 5 _ (arg_send _ no _ bounds.send-G),
          ),
          (
            c.requires.fresh,
            (
              (
                ap (λ crew. crew.rows) new ∙ c.requires.begins.0,
                ap (λ crew. crew.owed) new ∙ c.requires.begins.1,
              ),
              (
                param_send 1 _ (arg_send _ no _ bounds.send-N),
                param_send 5 _ (arg_send _ no _ bounds.send-G),
                search (sendable, bounds.sync-R),
                search (sendable, bounds.sync-N),
                search (sendable, bounds.sync-G),
              ),
            ),
          ),
        ),
      ),
    )
