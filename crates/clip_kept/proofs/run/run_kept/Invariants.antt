use Rattle.clip_kept.specs.Opened.{begun_with}
use Rattle.clip_kept.proofs.run.run_kept.Given as goal

-- the run that begins here
abbrev pub ghosts-run_named : goal.ghosts-run_named
ghosts-run_named g a = record {
  begun = begun_with g.R.Source g.S.Store a.reader a.keeping.opened;
  stand_for = g.L.Shortener.stand_for a.keeping.shortener.now;
}
