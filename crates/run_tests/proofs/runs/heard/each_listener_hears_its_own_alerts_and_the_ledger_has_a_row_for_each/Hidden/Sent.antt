-- A folder may be handed over.
use denote.Param.Send.{sendable}
use denote.Param.Sent.{Sends}
use Rattle.clip_listen.proofs.Sent.{style_folder_send}
use Rattle.run_tests.proofs.runs.heard.each_listener_hears_its_own_alerts_and_the_ledger_has_a_row_for_each.OwnLists

pub sends-part-1-1 : Sends OwnLists.part-1-1
sends-part-1-1 = search (sendable, style_folder_send)
