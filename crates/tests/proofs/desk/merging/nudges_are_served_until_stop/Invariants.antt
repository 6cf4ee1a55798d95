use Rattle.clip_desk.specs.Updates.{all_heard}
use Rattle.tests.proofs.desk.merging.nudges_are_served_until_stop.Given as goal

-- the desk whose parts were just made
abbrev pub ghosts-run_nudges : goal.ghosts-run_nudges
ghosts-run_nudges g a = record {
  book = a.parts.book;
  callers = a.parts.callers;
  keeps = a.parts.keeps;
  heard_before =
      all_heard a.parts.updates;
}
