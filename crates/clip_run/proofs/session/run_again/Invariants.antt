use Rattle.clip_desk.specs.Updates.{all_heard}
use Rattle.clip_run.proofs.session.run_again.Given as goal

-- the desk whose parts were just made
abbrev pub ghosts-run_desk : goal.ghosts-run_desk
ghosts-run_desk g a = record {
  book = a.parts.book;
  callers = a.parts.callers;
  keeps = a.parts.keeps;
  heard_before =
      all_heard a.parts.updates;
}
