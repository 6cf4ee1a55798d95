use Rattle.clip_model.proofs.Replay.{replays_on}
use Rattle.clip_model.proofs.Legal.{fronts_are_legal, goes_on}
use Rattle.clip_model.proofs.Seqs.{listed_are_counted, registered_are_listed, seqs_are_listed}
use Rattle.clip_model.proofs.Dead.{dead_stays_dead}
use Rattle.clip_model.proofs.laws_of_histories.Goals as goal

pub returns : goal.returns
returns c = record {
  replays_on = replays_on;
  fronts_are_legal = fronts_are_legal;
  goes_on = goes_on;
  listed_are_counted = listed_are_counted;
  registered_are_listed = registered_are_listed;
  seqs_are_listed = seqs_are_listed;
  dead_stays_dead = dead_stays_dead;
}
