-- A folder may be handed over.
use denote.Param.Send.{sendable}
use denote.Param.Sent.{Sends}
use Rattle.clip_listen.proofs.Sent.{style_folder_send}
use Rattle.tests.proofs.listen.a_name_that_repeats_hands_the_listeners_back.OwnLists as own

pub sends-part-1-1 : Sends own.part-1-1
sends-part-1-1 = search (sendable, style_folder_send)
