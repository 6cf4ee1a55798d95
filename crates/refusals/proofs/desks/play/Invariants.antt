use Rattle.clip_desk.specs.Updates.{all_heard}
use Rattle.refusals.proofs.desks.play.Given as goal

-- the desk whose parts were just made
abbrev pub ghosts-use_desk : goal.ghosts-use_desk
ghosts-use_desk g a = record {
  book = a.parts.book;
  callers = a.parts.callers;
  keeps = a.parts.keeps;
  heard_before =
      all_heard a.parts.updates;
}
