use Rattle.clip_desk.specs.Updates.{all_heard}
use Rattle.tests.proofs.desk.four_threads.run_plan.Given as goal

-- the desk whose parts were just made
abbrev pub ghosts-run_four : goal.ghosts-run_four
ghosts-run_four g a = record {
  book = a.parts.book;
  callers = a.parts.callers;
  keeps = a.parts.keeps;
  heard_before =
      all_heard a.parts.updates;
}
