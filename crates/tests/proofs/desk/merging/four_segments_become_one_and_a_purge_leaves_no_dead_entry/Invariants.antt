use Rattle.clip_desk.specs.Updates.{all_heard}
use Rattle.tests.proofs.desk.merging.four_segments_become_one_and_a_purge_leaves_no_dead_entry.Given as goal

-- the desk whose parts were just made
abbrev pub ghosts-run_merge : goal.ghosts-run_merge
ghosts-run_merge g a = record {
  book = a.parts.book;
  callers = a.parts.callers;
  keeps = a.parts.keeps;
  heard_before =
      all_heard a.parts.updates;
}
