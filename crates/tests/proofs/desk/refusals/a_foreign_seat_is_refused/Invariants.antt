use Rattle.clip_desk.specs.Updates.{all_heard}
use Rattle.tests.proofs.desk.refusals.a_foreign_seat_is_refused.Given as goal

-- the desks whose parts were just made
abbrev pub ghosts-run_foreign-N-DeskName : goal.ghosts-run_foreign-N-DeskName
ghosts-run_foreign-N-DeskName g a =
    record {
      book = a.parts.book;
      callers = a.parts.callers;
      keeps = a.parts.keeps;
      heard_before =
          all_heard a.parts.updates;
    }

abbrev pub ghosts-run_foreign-M-DeskName : goal.ghosts-run_foreign-M-DeskName
ghosts-run_foreign-M-DeskName g a =
    record {
      book = a.others.book;
      callers = a.others.callers;
      keeps = a.others.keeps;
      heard_before =
          all_heard a.others.updates;
    }
