use Rattle.clip_desk.specs.Updates.{all_heard}
use Rattle.tests.proofs.desk.callers.a_caller_sees_what_another_committed.Given as goal

-- the desk whose parts were just made
abbrev pub ghosts-run_both : goal.ghosts-run_both
ghosts-run_both g a = record {
  book = a.parts.book;
  callers = a.parts.callers;
  keeps = a.parts.keeps;
  heard_before =
      all_heard a.parts.updates;
}
