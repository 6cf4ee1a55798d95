use Rattle.clip_front.specs.Devices.{devices_at}
use Rattle.clip_kept.specs.Opened.{begun_with}
use Rattle.clip_kept.proofs.Running.{all_kept}
use Rattle.clip_kept.proofs.run.run_kept.Goals as goal

pub returns-clause-kept : goal.returns-clause-kept
returns-clause-kept g c =
    let parts = c.run_named.result.parts in
    all_kept (g.L.Shortener.stand_for c.args.keeping.shortener.now) c.run_named.result.answer g.S.Store
    (begun_with g.R.Source g.S.Store c.args.reader c.args.keeping.opened)
    (g.R.Source.left parts.reader) parts.held.items parts.met_end parts.fault parts.journal
    (devices_at g.R.Source g.W.Sink parts.reader c.run_named.new.writer) parts.reads c.run_named.ensures.honest
    c.run_named.ensures.was_ahead
