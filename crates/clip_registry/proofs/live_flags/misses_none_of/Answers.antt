use Rattle.clip_registry.proofs.Lost.{misses_by}
use Rattle.clip_registry.proofs.live_flags.misses_none_of.Goals as goal

pub returns : goal.returns
returns c = λ is was entries here before.
    misses_by is was entries c.args.now.now c.args.begun.now c.next_lost.result c.is_none.result here before
    c.is_none.ensures c.next_lost.ensures.lost c.next_lost.ensures.first
