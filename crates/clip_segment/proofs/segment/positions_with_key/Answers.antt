use Rattle.std.proofs.Common.{◌<◌, length, sym, ◌∙◌, subst}
use Rattle.std.specs.List.{All, AllPairs}
use Rattle.clip_extract.specs.Keys.{key_of}
use Rattle.clip_segment.proofs.Holding.{positions_within, positions_rise}
use Rattle.clip_segment.proofs.EntryPositions.{positions_of_key}
use Rattle.clip_segment.proofs.segment.positions_with_key.Goals as goal

pub returns-clause-holders : goal.returns-clause-holders
returns-clause-holders c =
    c.with_key.ensures _ c.index.ensures.queries ∙ positions_of_key (key_of c.args.key.now) c.args.segment.now

pub returns-clause-within : goal.returns-clause-within
returns-clause-within c =
    subst (λ ns. All (λ position. position < length c.args.segment.now) ns) (sym (returns-clause-holders c))
    (positions_within (key_of c.args.key.now) c.args.segment.now)

pub returns-clause-rising : goal.returns-clause-rising
returns-clause-rising c =
    subst (λ ns. AllPairs (λ p q. p < q) ns) (sym (returns-clause-holders c))
    (positions_rise (key_of c.args.key.now) c.args.segment.now)
