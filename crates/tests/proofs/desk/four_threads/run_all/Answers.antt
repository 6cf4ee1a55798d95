use mir.Syntax.{named}
use denote.Exit.{no}
use denote.Param.{param}
use denote.Param.Send.{param_send, arg_send}
use Rattle.tests.proofs.desk.four_threads.Shared.{work_send}
use Rattle.tests.proofs.desk.four_threads.run_all.Goals as goal

pub join-seats-requires-send-F : goal.join-seats-requires-send-F
join-seats-requires-send-F g c κs within =
    param_send 1 _ (arg_send _ no _ (work_send (param 0 g.row.N) g.N.DeskName _ g.row.R
    (record { mir = named 6; lft = κs.1.1.1.1.1.1.0 }) (record { mir = named 7; lft = κs.1.1.1.1.1.1.1.0 })
    c.type_bounds.sync-R))
