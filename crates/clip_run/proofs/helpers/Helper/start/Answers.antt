use mathlib.Core.List.{[], ◌∷◌}
use mir.Syntax.{Sym}
use denote.RattleType.{RattleType}
use denote.Exit.{no}
use denote.Param.{param}
use denote.Param.Send.{IsSend, IsSync, param_send, arg_send, sendable}
use denote.Param.SendFields.{declared_send, as_row_send}
use denote.Struct.Field.{row_field}
use denote.Struct.Tuple.{TupleAt, type_at}
use Rattle.std.specs.contracts.alloc.Global as global
use Rattle.std.specs.contracts.impls.GlobalAllocator.TheImpl as global_allocator
use Rattle.std.specs.contracts.sync.Arc as arc
use Rattle.std.specs.contracts.sync.atomic.AtomicBool as flag
use Rattle.std.proofs.alloc.Global.TheSendSync as global_sent
use Rattle.std.below.std_heap.proofs.GlobalAllocator.TheSendSync as allocator_sent
use Rattle.std.proofs.sync.Arc.TheSendSync as arc_sent
use Rattle.std.proofs.sync.atomic.AtomicBool.TheSendSync as flag_sent
use Rattle.clip_run.specs.contracts.group.Group as group
use Rattle.clip_run.proofs.Sent.{lines_send, helped_send}
use Rattle.clip_run.proofs.helpers.Helper.start.Goals as goal

ruleset shared = (sendable, global_sent.the_send, global_sent.the_sync, allocator_sent.the_frees, arc_sent.the_send)

-- a closure of three captures
captures_send : (name : Sym) (A B C : RattleType) → IsSend A → IsSend B → IsSend C
    → IsSend (TupleAt name (A ∷ B ∷ C ∷ []))
captures_send name A B C a b c =
    declared_send (type_at name (A ∷ B ∷ C ∷ [])) (
      as_row_send (row_field A) a,
      (as_row_send (row_field B) b, (as_row_send (row_field C) c, tt)),
    )

pub spawn_with-requires-send-F : goal.spawn_with-requires-send-F
spawn_with-requires-send-F g c κs within =
    let G = param 1 g.row.G in
    let sent : IsSend G = search (sendable, c.type_bounds.send-G) in
    let synced : IsSync G = search (sendable, c.type_bounds.sync-G) in
    let lines = arc.the_row (group.the_row G) global.the_row global_allocator.ghosts in
    let told = arc.the_row flag.the_row global.the_row global_allocator.ghosts in
    param_send 2 _
    (arg_send _ no _
    (captures_send _ global.the_row lines told (search shared) (lines_send G sent synced)
    (search (shared, flag_sent.the_send, flag_sent.the_sync))))

pub spawn_with-requires-send-T : goal.spawn_with-requires-send-T
spawn_with-requires-send-T g c κs within = param_send 3 _ (arg_send _ no _ helped_send)
