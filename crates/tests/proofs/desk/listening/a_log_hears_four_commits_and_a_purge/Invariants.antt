use Rattle.clip_desk.specs.Updates.{all_heard}
use Rattle.tests.proofs.desk.listening.a_log_hears_four_commits_and_a_purge.Given as goal

-- the desk whose parts were just made
abbrev pub ghosts-run_purge : goal.ghosts-run_purge
ghosts-run_purge g a = record {
  book = a.parts.book;
  callers = a.parts.callers;
  keeps = a.parts.keeps;
  heard_before =
      all_heard a.parts.updates;
}
