use Rattle.clip_kept.proofs.opened.open_kept.Goals as goal

pub returns : goal.returns
returns g c = record {
  reads = c.in_ok-found.ensures.found;
  stands = c.over-journal.ensures c.in_ok-found.ensures.whole c.in_ok-found.ensures.durable;
}
