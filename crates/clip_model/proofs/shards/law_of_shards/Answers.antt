use Rattle.clip_model.proofs.Divided.{parts_are_registered, parts_alert, parts_are_merged, parts_are_counted}
use Rattle.clip_model.proofs.Divided.{parts_count, parts_are_heard, parts_are_heard_merged}
use Rattle.clip_model.proofs.Parts.{parts_are_legal, parts_go_on, parts_have_room}
use Rattle.clip_model.proofs.shards.law_of_shards.Goals as goal

pub returns : goal.returns
returns c = record {
  registered = parts_are_registered;
  alerts = parts_alert;
  merged = parts_are_merged;
  count = parts_are_counted;
  applied = parts_count;
  heard = parts_are_heard;
  heard_merged = parts_are_heard_merged;
  legal = parts_are_legal;
  goes_on = parts_go_on;
  room = parts_have_room;
}
