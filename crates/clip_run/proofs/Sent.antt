-- Threads may share a group, and hand over what was found of its articles, and a registrar of one's own.
use denote.RattleType.{RattleType}
use denote.Param.Send.{IsSend, IsSync, sendable}
use denote.Param.SendFields.{declared_send, declared_sync, variants_send, variants_sync, as_row_send, as_row_sync}
use denote.Struct.Field.{row_field}
use Rattle.std.proofs.alloc.Global.TheSendSync as global_sent
use Rattle.std.below.std_heap.proofs.GlobalAllocator.TheSendSync as allocator_sent
use Rattle.std.specs.contracts.alloc.Global as global_type
use Rattle.std.specs.contracts.impls.GlobalAllocator.TheImpl as global_allocator
use Rattle.std.specs.contracts.sync.Arc as arc
use Rattle.std.proofs.result.Result.TheSendSync as result_sent
use Rattle.std.proofs.vec.Vec.TheSendSync as vec_sent
use Rattle.std.proofs.sync.Arc.TheSendSync as arc_sent
use Rattle.std.proofs.sync.atomic.AtomicUsize.TheSendSync as counter_sent
use Rattle.clip_words.proofs.NoMemory.TheSendSync as no_memory_sent
use Rattle.clip_match.proofs.Sent.{registrar_send, view_send, view_sync}
use Rattle.clip_protocol.proofs.judged.JudgedDraft.TheSendSync as judged_sent
use Rattle.clip_protocol.proofs.Sent.{found_send}
use Rattle.clip_front.proofs.settings.Settings.TheSendSync as settings_sent
use Rattle.clip_run.proofs.group.Place.TheSendSync as place_sent
use Rattle.clip_run.specs.contracts.batch.Batch as batch
use Rattle.clip_run.specs.contracts.batch.Pending as pending
use Rattle.clip_run.specs.contracts.group.Answer as answer
use Rattle.clip_run.specs.contracts.group.Group as group
use Rattle.clip_run.specs.contracts.helpers.Helped as helped
use Rattle.clip_run.specs.contracts.own_registrar.OwnRegistrar as own_registrar

ruleset global = (sendable, global_sent.the_send, global_sent.the_sync, allocator_sent.the_frees)

ruleset parts = (
  global,
  vec_sent.the_send,
  vec_sent.the_sync,
  judged_sent.the_send,
  judged_sent.the_sync,
  place_sent.the_send,
  place_sent.the_sync,
)

batch_send : IsSend batch.the_row
batch_send = declared_send batch.the_type (search sendable, (search sendable, (view_send, (search parts, tt))))

batch_sync : IsSync batch.the_row
batch_sync = declared_sync batch.the_type (search sendable, (search sendable, (view_sync, (search parts, tt))))

pending_send : IsSend pending.the_row
pending_send = variants_send pending.enum ((search parts, tt), ((batch_send, tt), tt))

pending_sync : IsSync pending.the_row
pending_sync = variants_sync pending.enum ((search parts, tt), ((batch_sync, tt), tt))

module _ (G : RattleType) (sent : IsSend G) (shared : IsSync G) where
  pub group_send : IsSend (group.the_row G)
  group_send = declared_send (group.the_type G) (
    search (parts, pending_send, pending_sync),
    (
      settings_sent.the_send,
      (
        as_row_send (row_field G) sent,
        (search parts, (search (sendable, counter_sent.the_send), (search (sendable, counter_sent.the_send), tt))),
      ),
    ),
  )

  pub group_sync : IsSync (group.the_row G)
  group_sync = declared_sync (group.the_type G) (
    search (parts, pending_send, pending_sync),
    (
      settings_sent.the_sync,
      (
        as_row_sync (row_field G) shared,
        (search parts, (search (sendable, counter_sent.the_sync), (search (sendable, counter_sent.the_sync), tt))),
      ),
    ),
  )

  -- lines that threads share
  pub lines_send : IsSend (arc.the_row (group.the_row G) global_type.the_row global_allocator.ghosts)
  lines_send = search (global, arc_sent.the_send, group_send, group_sync)

answer_send : IsSend answer.the_row
answer_send = declared_send answer.the_type (search sendable, (place_sent.the_send, (found_send, tt)))

pub helped_send : IsSend helped.the_row
helped_send = declared_send helped.the_type (search (parts, answer_send), tt)

pub own_registrar_send : IsSend own_registrar.the_row
own_registrar_send = declared_send own_registrar.the_type (
  registrar_send,
  (search (sendable, result_sent.the_send, no_memory_sent.the_send), tt),
)
