-- A folder may be handed over.
use denote.Param.Send.{sendable}
use denote.Param.Sent.{Sends}
use Rattle.clip_listen.proofs.Sent.{style_folder_send}
use Rattle.tests.proofs.listen.among_listeners_of_each_kind_each_alert_is_heard_by_its_own.OwnLists as own

pub sends-part-1-1 : Sends own.part-1-1
sends-part-1-1 = search (sendable, style_folder_send)
