-- Threads may hand over and share queries, as they may their texts.
use denote.Param.Send.{IsSend, IsSync, recorded_send, recorded_sync, sendable}
use denote.Struct.Tuple.{Tuple, tuple_type}
use denote.Param.SendFields.{declared_send, declared_sync, as_row_send, as_row_sync}
use denote.Struct.Field.{row_field}
use mathlib.Core.List.{[], ◌∷◌}
use Rattle.clip_grammar.specs.contracts.query.Occur as occur
use Rattle.std.specs.contracts.alloc.Global as global
use Rattle.std.specs.contracts.impls.GlobalAllocator.TheImpl.{ghosts}
use Rattle.std.proofs.alloc.Global.TheSendSync as global_sent
use Rattle.std.below.std_heap.proofs.GlobalAllocator.TheSendSync as allocator_sent
use Rattle.std.proofs.sync.ArcStr.TheSendSync as arc_str_sent
use Rattle.std.proofs.vec.Vec.TheSendSync as vec_sent
use Rattle.clip_grammar.proofs.query.Bound.TheSendSync as bound_sent
use Rattle.clip_grammar.proofs.query.Occur.TheSendSync as occur_sent
use Rattle.clip_grammar.proofs.query.Query.TheLaws.TheKnot.{send-Query, sync-Query}
use Rattle.clip_grammar.specs.contracts.query.Query.{the_row, the_field, the_type}

pub query_send : IsSend the_row
query_send = recorded_send the_field.row _ _ the_type.to_one (send-Query
    (search (sendable, arc_str_sent.the_field_send, global_sent.the_send, allocator_sent.the_frees) depth 20)
    (search (sendable, vec_sent.the_send, arc_str_sent.the_send, global_sent.the_send, allocator_sent.the_frees) depth
    20)
    bound_sent.the_field_send
    (λ h s. vec_sent.the_send (Tuple (occur.the_row ∷ h ∷ [])) global.the_row ghosts
    (declared_send (tuple_type (occur.the_row ∷ h ∷ [])) (occur_sent.the_send, (as_row_send (row_field h) s, tt)))
    global_sent.the_send allocator_sent.the_frees))

pub query_sync : IsSync the_row
query_sync = recorded_sync the_field.row _ _ the_type.to_one (sync-Query
    (search (
      sendable,
      arc_str_sent.the_field_sync,
      global_sent.the_sync,
      global_sent.the_send,
      allocator_sent.the_frees,
    ) depth 20)
    (search (
      sendable,
      vec_sent.the_sync,
      arc_str_sent.the_sync,
      global_sent.the_sync,
      global_sent.the_send,
      allocator_sent.the_frees,
    ) depth 20)
    bound_sent.the_field_sync
    (λ h s. vec_sent.the_sync (Tuple (occur.the_row ∷ h ∷ [])) global.the_row ghosts
    (declared_sync (tuple_type (occur.the_row ∷ h ∷ [])) (occur_sent.the_sync, (as_row_sync (row_field h) s, tt)))
    global_sent.the_sync))
