use Rattle.clip_desk.specs.Updates.{all_heard}
use Rattle.tests.proofs.desk.memory.a_refused_commit_is_accepted_when_tried_again.Given as goal

-- the desk whose parts were just made
abbrev pub ghosts-run_again : goal.ghosts-run_again
ghosts-run_again g a = record {
  book = a.parts.book;
  callers = a.parts.callers;
  keeps = a.parts.keeps;
  heard_before =
      all_heard a.parts.updates;
}
