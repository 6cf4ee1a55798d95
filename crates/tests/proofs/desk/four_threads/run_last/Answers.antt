use mir.Syntax.{named}
use denote.Exit.{no}
use denote.Param.{param}
use denote.Param.Send.{param_send, arg_send, sendable}
use Rattle.tests.proofs.desk.four_threads.Shared.{seat_send, seat_work_send}
use Rattle.tests.proofs.desk.four_threads.run_last.Goals as goal

pub join-requires-send-F : goal.join-requires-send-F
join-requires-send-F g c κs within =
    param_send 1 _ (arg_send _ no _ (seat_work_send (param 0 g.row.N) g.N.DeskName _ g.row.R
    (record { mir = named 6; lft = κs.1.1.1.1.1.1.0 }) (record { mir = named 7; lft = κs.1.1.1.1.1.1.1.0 })
    c.type_bounds.sync-R))

pub join-requires-send-A : goal.join-requires-send-A
join-requires-send-A g c κs within = search (sendable, seat_send)
