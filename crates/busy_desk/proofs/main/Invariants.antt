use Rattle.clip_desk.specs.Updates.{all_heard}
use Rattle.busy_desk.proofs.main.Given as goal

-- the desk whose parts were just made
abbrev pub ghosts-play : goal.ghosts-play
ghosts-play g a = record {
  book = a.parts.book;
  callers = a.parts.callers;
  keeps = a.parts.keeps;
  heard_before =
      all_heard a.parts.updates;
}

abbrev pub ghosts-measure : goal.ghosts-measure
ghosts-measure g a = record {
  book = a.parts.book;
  callers = a.parts.callers;
  keeps = a.parts.keeps;
  heard_before =
      all_heard a.parts.updates;
}
