-- A folder may be handed over.
use denote.Param.Send.{sendable}
use denote.Param.Sent.{Sends}
use Rattle.clip_listen.proofs.Sent.{style_folder_send}
use Rattle.run_tests.proofs.runs.groups.written.OwnLists as own

pub sends-part-1-1 : Sends own.part-1-1
sends-part-1-1 = search (sendable, style_folder_send)
