-- Threads may hand over and share standing queries, entries, commands and entries of the history, and hand over alerts.
use denote.Param.Send.{IsSend, IsSync, view_send, view_sync, sendable}
use denote.Param.SendFields.{declared_send, declared_sync, variants_send, variants_sync}
use Rattle.std.proofs.alloc.Global.TheSendSync as global_sent
use Rattle.std.below.std_heap.proofs.GlobalAllocator.TheSendSync as allocator_sent
use Rattle.std.proofs.string.String.TheSendSync as string_sent
use Rattle.std.proofs.sync.ArcStr.TheSendSync as arc_str_sent
use Rattle.std.proofs.option.Option.TheSendSync as option_sent
use Rattle.std.proofs.sync.Arc.TheSendSync as arc_sent
use Rattle.std.proofs.vec.Vec.TheSendSync as vec_sent
use Rattle.counted_slot.proofs.Counted.TheSendSync as slot_sent
use Rattle.std.proofs.boxed.Box.TheSendSync as box_sent
use Rattle.once_cell.proofs.race.once_box.OnceBox.TheSendSync as once_sent
use Rattle.clip_grammar.proofs.Sent.{query_send, query_sync}
use Rattle.clip_meaning.proofs.article.Article.TheSendSync as article_sent
use Rattle.clip_meaning.specs.contracts.hit.Hit as hit
use Rattle.clip_standing.specs.contracts.reading.ReadQuery as reading
use Rattle.clip_standing.specs.contracts.reading.ReadQuery.TheInside as reading_inside
use Rattle.clip_standing.specs.contracts.fresh.Fresh as fresh
use Rattle.clip_standing.specs.contracts.standing.Standing as standing
use Rattle.clip_standing.specs.contracts.standing.Standing.TheInside as standing_inside
use Rattle.clip_standing.specs.contracts.found.FoundHits as found
use Rattle.clip_standing.specs.contracts.found.FoundHits.TheInside as found_inside
use Rattle.clip_standing.specs.contracts.alert.Alert as alert
use Rattle.clip_standing.specs.contracts.alert.Alerts as alerts
use Rattle.clip_standing.specs.contracts.entry.Entry as entry
use Rattle.clip_standing.specs.contracts.entry.Entry.TheInside as entry_inside
use Rattle.clip_standing.specs.contracts.command.Command as command
use Rattle.clip_standing.specs.contracts.command.HistoryEntry as history_entry

ruleset global = (sendable, global_sent.the_send, global_sent.the_sync, allocator_sent.the_frees)

ruleset parts = (
  global,
  vec_sent.the_send,
  vec_sent.the_sync,
  arc_sent.the_send,
  arc_sent.the_sync,
  string_sent.the_send,
  string_sent.the_sync,
)

reading_send : IsSend reading.the_row
reading_send = view_send reading_inside.the_row _ _ _ _
    (declared_send reading_inside.the_type (search (global, arc_str_sent.the_send), (query_send, tt)))

reading_sync : IsSync reading.the_row
reading_sync = view_sync reading_inside.the_row _ _ _ _
    (declared_sync reading_inside.the_type (search (global, arc_str_sent.the_sync), (query_sync, tt)))

fresh_send : IsSend fresh.the_row
fresh_send = declared_send fresh.the_type (search (global, box_sent.the_send, reading_send), tt)

fresh_sync : IsSync fresh.the_row
fresh_sync = declared_sync fresh.the_type (search (global, box_sent.the_sync, reading_sync), tt)

pub standing_send : IsSend standing.the_row
standing_send = view_send standing_inside.the_row _ _ _ _
    (declared_send standing_inside.the_type (
      search (global, arc_str_sent.the_send),
      (
        search (global, arc_str_sent.the_send),
        (
          search (global, arc_str_sent.the_send, option_sent.the_send),
          (
            search (global, slot_sent.the_send, option_sent.the_send, fresh_send),
            (once_sent.the_send reading.the_row reading_send, tt),
          ),
        ),
      ),
    ))

pub standing_sync : IsSync standing.the_row
standing_sync = view_sync standing_inside.the_row _ _ _ _
    (declared_sync standing_inside.the_type (
      search (global, arc_str_sent.the_sync),
      (
        search (global, arc_str_sent.the_sync),
        (
          search (global, arc_str_sent.the_sync, option_sent.the_sync),
          (
            search (global, slot_sent.the_sync, option_sent.the_send, option_sent.the_sync, fresh_send, fresh_sync),
            (once_sent.the_sync reading.the_row reading_send reading_sync, tt),
          ),
        ),
      ),
    ))

pub entry_send : IsSend entry.the_row
entry_send = view_send entry_inside.the_row _ _ _ _
    (declared_send entry_inside.the_type (
      search global,
      (search (global, arc_sent.the_send, standing_send, standing_sync), tt),
    ))

pub entry_sync : IsSync entry.the_row
entry_sync = view_sync entry_inside.the_row _ _ _ _
    (declared_sync entry_inside.the_type (
      search global,
      (search (global, arc_sent.the_sync, standing_send, standing_sync), tt),
    ))

command_send : IsSend command.the_row
command_send = variants_send command.enum (
  (search (parts, standing_send, standing_sync), tt),
  ((search parts, tt), (tt, tt)),
)

command_sync : IsSync command.the_row
command_sync = variants_sync command.enum (
  (search (parts, standing_send, standing_sync), tt),
  ((search parts, tt), (tt, tt)),
)

pub history_entry_send : IsSend history_entry.the_row
history_entry_send = declared_send history_entry.the_type (search global, (search global, (command_send, tt)))

pub history_entry_sync : IsSync history_entry.the_row
history_entry_sync = declared_sync history_entry.the_type (search global, (search global, (command_sync, tt)))

hit_send : IsSend hit.the_row
hit_send = declared_send hit.the_type (search (global, arc_str_sent.the_send), (search global, tt))

hit_sync : IsSync hit.the_row
hit_sync = declared_sync hit.the_type (search (global, arc_str_sent.the_sync), (search global, tt))

found_send : IsSend found.the_row
found_send = view_send found_inside.the_row _ _ _ _
    (declared_send found_inside.the_type (
      search (global, arc_sent.the_send, vec_sent.the_send, vec_sent.the_sync, hit_send, hit_sync),
      (search global, (search global, tt)),
    ))

pub alert_send : IsSend alert.the_row
alert_send = declared_send alert.the_type (
  search (global, arc_sent.the_send, standing_send, standing_sync),
  (search (global, article_sent.the_send), (search (global, option_sent.the_send, found_send), tt)),
)

pub alerts_send : IsSend alerts.the_row
alerts_send = declared_send alerts.the_type (
  search (global, arc_str_sent.the_send),
  (search global, (search global, (search (global, vec_sent.the_send, alert_send), tt))),
)
