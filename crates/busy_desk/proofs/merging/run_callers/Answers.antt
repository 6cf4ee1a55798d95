use mir.Syntax.{named}
use denote.Exit.{no}
use denote.Param.{param}
use denote.Param.Send.{IsSync, param_send, arg_send, sendable}
use denote.Struct.Field.{shr_ref_field}
use Rattle.busy_desk.specs.contracts.merging.Room as room
use Rattle.busy_desk.proofs.Shared.{room_sync, seat_row, seat_send, three_send}
use Rattle.busy_desk.proofs.merging.run_callers.Goals as goal

pub join-requires-send-F : goal.join-requires-send-F
join-requires-send-F g c κs within =
    let rt = (shr_ref_field (record { mir = named 6; lft = κs.1.1.1.1.1.1.0 }) (param 1 g.row.R) tt).row in
    let N = param 0 g.row.N in
    let synced : IsSync (room.the_row N g.N.DeskName) = room_sync N g.N.DeskName in
    let shared = (shr_ref_field (record { mir = named 7; lft = κs.1.1.1.1.1.1.1.0 }) (room.the_row N g.N.DeskName)
    tt).row in
    param_send 1 _ (arg_send _ no _
    (three_send _ rt shared seat_row (search (sendable, c.type_bounds.sync-R)) (search (sendable, synced))
    seat_send))
