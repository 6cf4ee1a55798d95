use Rattle.clip_desk.specs.Updates.{all_heard}
use Rattle.tests.proofs.desk.merging.matched_articles_pay_for_one_segment.Given as goal

-- the desk whose parts were just made
abbrev pub ghosts-run_matched : goal.ghosts-run_matched
ghosts-run_matched g a = record {
  book = a.parts.book;
  callers = a.parts.callers;
  keeps = a.parts.keeps;
  heard_before =
      all_heard a.parts.updates;
}
